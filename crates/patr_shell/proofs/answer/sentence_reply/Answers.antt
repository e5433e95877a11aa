use Rattle.std.proofs.Common.{ℕ, List, map, Bor, IfOk, sym, subst}
use Rattle.std.specs.String.{string_bytes}
use Rattle.patr_shell.proofs.Names.{solved, AgreesWith, IsSentenceReply, Stored, state_seen}
use Rattle.patr_parse.specs.Sentences.{IsRefusedFor, IsFirstCause}
use Rattle.patr_reply.specs.Lines.{grounds as by_library}
use Rattle.patr_shell.proofs.answer.sentence_reply.Goals as goal

pub returns-in-Ok : goal.returns-in-Ok
returns-in-Ok g c = λ N agrees.
    let texts = c.symbols-symbols.ensures.texts in
    let stored = c.library-library.ensures in
    let words = map (λ (w : Bor (List ℕ)). w.now) c.args.sentence.words.now in
    let said = c.reply.ensures.sentence words c.args.state.limit N c.in-Ok.ensures.parsed (subst (λ (t : List (List ℕ)). AgreesWith N t) (sym texts) agrees) in
    subst (λ (s : Stored). IfOk c.reply.result (λ text. IsSentenceReply solved (by_library N s) (state_seen c.args.state) words (string_bytes text))) stored said

pub returns-in-Err-Refused : goal.returns-in-Err-Refused
returns-in-Err-Refused g c = λ N agrees.
    let texts = c.symbols-symbols.ensures.texts in
    let stored = c.library-library.ensures in
    let has = c.symbols-symbols.ensures.symbols in
    let library = c.args.language.now.library in
    let table = c.args.language.now.texts in
    let limit = c.args.state.limit in
    let words = map (λ (w : Bor (List ℕ)). w.now) c.args.sentence.words.now in
    let cause = c.in-Err-Refused.cause in
    let here : IsFirstCause c.library-library.result.now c.symbols-symbols.result.now words limit cause =
    subst (λ f. IsRefusedFor c.library-library.result.now c.symbols-symbols.result.now words limit f) c.in-Err-Refused.field-0-is c.in-Err-Refused.ensures.refused in
    let due : IsFirstCause library table words limit cause =
    subst (λ (s : Stored). IsFirstCause s table words limit cause) stored (subst (λ (t : List (List ℕ)). IsFirstCause c.library-library.result.now t words limit cause) texts here) in
    let given = subst (λ k. IsFirstCause library table words limit k) (sym c.in-Err-Refused.cause-is) due in
    c.refusal.ensures library table limit N c.args.state.features c.args.state.count given has.first has.held agrees
