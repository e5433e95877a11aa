use Rattle.std.proofs.Common.{◌∙◌, ap, length, arith, rules}
use Rattle.std.proofs.lemmas.List.{length-map}
use Rattle.patr_lists.specs.Tables.{with_number}
use Rattle.patr_lists.proofs.Tables.{put_numbers, keep_numbers}
use Rattle.patr_lists.proofs.number_lists.NumberLists.put.Goals as goal

pub returns-then-is_err : goal.returns-then-is_err
returns-then-is_err c =
    keep_numbers c.self.inside.lists.items c.args.place c.index_mut-list.result.now c.reserve.new.self c.index_mut-list.ensures.value c.reserve.ensures.items
    ∙ c.self.view_is

pub returns : goal.returns
returns c =
    put_numbers c.self.inside.lists.items c.args.place c.index_mut-list.result.now c.push_reserved.new.self c.args.number
    (omega (arith, c.requires, ap length c.self.view_is, length-map c.self.inside.lists.items (λ v. v.items))) c.index_mut-list.ensures.value (search rules)
    ∙ ap (λ t. with_number t c.args.place c.args.number) c.self.view_is
