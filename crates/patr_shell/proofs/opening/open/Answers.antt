use Rattle.std.proofs.Common.{◌∙◌, sym, ap, refl, subst, length, arith, map, string_bytes}
use Rattle.patr_shell.proofs.Names.{err_from_is_err_and, setup_meant, setup_seen, grammar, lexicon, IsTable}
use Rattle.patr_shell.proofs.Meanings.{stands_still, is_opened, has_grammar, have_session, first_few, build_refused}
use Rattle.patr_shell.proofs.opening.open.Goals as goal

pub load_grammar-requires : goal.load_grammar-requires
load_grammar-requires g c = omega (arith, ap length c.in_ok-symbols.ensures ∙ first_few)

pub load_lexicon-requires : goal.load_lexicon-requires
load_lexicon-requires g c = omega (arith, ap length c.in_ok-symbols.ensures ∙ first_few, c.load_grammar.ensures.growth)

pub returns-in_err-grammar-clause-read : goal.returns-in_err-grammar-clause-read
returns-in_err-grammar-clause-read g c =
    let p = err_from_is_err_and c.from_residual-in_err-grammar.result c.from_residual-in_err-grammar.ensures.1 in
    rw (p.1, p.2) (λ is. (c.in-Some.setup.grammar.now, grammar (setup_meant c.in-Some.setup) (sym c.in_ok-setup.ensures.words ∙ ap setup_seen c.in-Some.is) refl, c.in_err-grammar.ensures.read is))

pub returns-in_err-lexicon-clause-read : goal.returns-in_err-lexicon-clause-read
returns-in_err-lexicon-clause-read g c =
    let p = err_from_is_err_and c.from_residual-in_err-lexicon.result c.from_residual-in_err-lexicon.ensures.1 in
    let read = rw (c.load_grammar.ensures.files, c.in_ok-grammar.ensures.well) at c.in_err-lexicon.ensures.read in
    rw (p.1, p.2) (λ is. (c.in-Some.setup.lexicon.now, lexicon (setup_meant c.in-Some.setup) (sym c.in_ok-setup.ensures.words ∙ ap setup_seen c.in-Some.is) refl (has_grammar _ _ _ _ c.in_ok-grammar.ensures.grammar), read is))

pub build-requires-clause-grammar : goal.build-requires-clause-grammar
build-requires-clause-grammar g c =
    (c.in_ok-grammar.ensures.grammar.bytes, stands_still _ _ c.load_lexicon.ensures.extends _ (setup_meant c.in-Some.setup) _ _ c.len.ensures.one_to_one c.in_ok-grammar.ensures.grammar (rw c.load_grammar.ensures.files at c.in_ok-lexicon.ensures.lexicon))

pub returns-in_err-language-clause-fault : goal.returns-in_err-language-clause-fault
returns-in_err-language-clause-fault g c =
    let p = err_from_is_err_and c.from_residual-in_err-language.result c.from_residual-in_err-language.ensures.1 in
    rw (p.1, p.2) (build_refused (map string_bytes c.args.words.now) (setup_meant c.in-Some.setup) (sym c.in_ok-setup.ensures.words ∙ ap setup_seen c.in-Some.is)
    _ _ c.load_lexicon.ensures.extends _ _ c.len.ensures.one_to_one _ c.in_ok-grammar.ensures.grammar (rw c.load_grammar.ensures.files at c.in_ok-lexicon.ensures.lexicon) _ c.in_err-language.ensures.fault)

pub returns-clause-opened : goal.returns-clause-opened
returns-clause-opened g c =
    is_opened (map string_bytes c.args.words.now) (setup_meant c.in-Some.setup) (sym c.in_ok-setup.ensures.words ∙ ap setup_seen c.in-Some.is) _ _ c.load_lexicon.ensures.extends _ _ c.len.ensures.one_to_one
    _ c.in_ok-grammar.ensures.grammar (rw c.load_grammar.ensures.files at c.in_ok-lexicon.ensures.lexicon) c.len.ensures.first c.in_ok-language.language c.in_ok-language.ensures.built c.first.result c.first.ensures.state

pub returns-clause-found : goal.returns-clause-found
returns-clause-found g c =
    have_session (map string_bytes c.args.words.now) (setup_meant c.in-Some.setup) (sym c.in_ok-setup.ensures.words ∙ ap setup_seen c.in-Some.is) _ _ c.load_lexicon.ensures.extends _ _ c.len.ensures.one_to_one
    _ c.in_ok-grammar.ensures.grammar (rw c.load_grammar.ensures.files at c.in_ok-lexicon.ensures.lexicon) c.in_ok-language.language c.in_ok-language.ensures.built

pub returns-clause-table : goal.returns-clause-table
returns-clause-table g c = subst IsTable (sym c.in_ok-language.ensures.built.texts) c.len.ensures.one_to_one
