use Rattle.std.proofs.Common.{◌≡◌, arith, get_or, rules, sym, refl}
use Rattle.patr_expand.specs.Meant.{meant_by}
use Rattle.patr_expand.proofs.Parted.{frame_parts, is_parted}
use Rattle.patr_expand.proofs.templates.Templates.split.Goals as goal

pub nonzero_div-frame : goal.nonzero_div-frame
nonzero_div-frame c =
    let t = c.args.self.now in
    let ms = meant_by t in
    let is : get_or c.args.frame.elements.now 0 c.first-item.result ≡ c.first-item.result = search rules in
    (frame_parts ms c.args.frame c.first-item.result c.size_of_element.result c.requires c.in-len1-up.len_at_least is (c.size_of_element.ensures ms t.known.measured)).behind_some

pub open-opened-requires : goal.open-opened-requires
open-opened-requires c =
    let t = c.args.self.now in
    let ms = meant_by t in
    let is : get_or c.args.frame.elements.now 0 c.first-item.result ≡ c.first-item.result = search rules in
    let p = frame_parts ms c.args.frame c.first-item.result c.size_of_element.result c.requires c.in-len1-up.len_at_least is (c.size_of_element.ensures ms t.known.measured) in
    record { few = p.few; below = p.below }

pub nonzero_rem-behind : goal.nonzero_rem-behind
nonzero_rem-behind c =
    let t = c.args.self.now in
    let ms = meant_by t in
    let is : get_or c.args.frame.elements.now 0 c.first-item.result ≡ c.first-item.result = search rules in
    (frame_parts ms c.args.frame c.first-item.result c.size_of_element.result c.requires c.in-len1-up.len_at_least is (c.size_of_element.ensures ms t.known.measured)).behind_some

pub returns : goal.returns
returns c =
    let t = c.args.self.now in
    let ms = meant_by t in
    let is : get_or c.args.frame.elements.now 0 c.first-item.result ≡ c.first-item.result = search rules in
    is_parted ms c.args.frame _ c.first-item.result c.size_of_element.result c.open-opened.result c.requires c.in-len1-up.len_at_least is (c.size_of_element.ensures ms t.known.measured) c.open-opened.ensures refl refl refl
