use Rattle.patr_reply.proofs.Names.{IfOk-weaker, line, string_bytes}
use Rattle.std.proofs.Common.{◌≡◌, ◌++◌, codes, decimal, ap, ◌∙◌, arith}
use Rattle.std.proofs.lemmas.Fmt.{decimal_digit}
use Rattle.patr_model.specs.Showing.{IsShowReply}
use Rattle.patr_reply.specs.Lines.{grounds}
use Rattle.patr_reply.proofs.Showing.{items_ready, reply_shown, reply_unknown}
use Rattle.patr_reply.proofs.shown.show.Goals as goal

pub listed-requires : goal.listed-requires
listed-requires c =
    rw (c.items_of-places.ensures, c.entries.ensures.same, c.arena.ensures) (items_ready c.args.library.now c.args.symbols.now c.len-count.ensures.first c.requires c.entries.ensures.stored c.in-Some.id.0)

pub returns-in-Some : goal.returns-in-Some
returns-in-Some c = λ names agrees.
    let s = c.args.library.now in
    let known = c.in-Some.ensures in
    IfOk-weaker c.listed.result _ (λ text. IsShowReply (grounds names s) c.args.word.now (string_bytes text))
    (λ text is. reply_shown s c.args.symbols.now c.len-count.ensures.first c.requires c.entries.ensures.stored names agrees c.args.word.now c.in-Some.id.0 known.0 known.1 (string_bytes text) is)
    (rw (c.items_of-places.ensures, c.entries.ensures.same, c.arena.ensures) at c.listed.ensures)

pub returns-in-None : goal.returns-in-None
returns-in-None c = λ names agrees.
    let s = c.args.library.now in
    let w = c.args.word.now in
    let one = ap (λ d. line (codes "error: unknown word at " ++ d ++ codes ": " ++ w)) (decimal_digit 1 (omega arith)) in
    IfOk-weaker c.unknown_line.result (λ text. string_bytes text ≡ line (codes "error: unknown word at " ++ decimal 1 ++ codes ": " ++ w)) (λ text. IsShowReply (grounds names s) w (string_bytes text))
    (λ text is. reply_unknown s c.args.symbols.now c.requires names agrees w c.in-None.ensures (string_bytes text) (is ∙ one)) c.unknown_line.ensures
