use Rattle.std.proofs.Common.{◌≡◌, ◌∙◌, ◌++◌, ◌∷◌, [], List, sym, ap, subst, arith, rules, length, replicate, zero-add}
use Rattle.patr_library.proofs.Names.{length-replicate, IsStrictlyIncreasing, Feature, attributes, AllOwn, slot_features}
use Rattle.patr_arena.specs.declared.value.Ref.TheVariants as ref
use Rattle.patr_library.proofs.Steps.{blanks_more, features_more, features_rise, features_own, blank_is_least}
use Rattle.patr_library.proofs.solving.blank.Goals as goal

pub loop-slot-preserved : goal.loop-slot-preserved
loop-slot-preserved c =
    let k = c.loop-slot.slot in
    let long : c.in_ok-offset.offset ≡ k = c.in_ok-offset.ensures.new.0 ∙ (ap length c.loop-slot.invariant.0 ∙ length-replicate {A = List Feature} k []) in (
      c.in_ok-offset.ensures.new.1 ∙ (ap (λ b. b ++ [] ∷ []) c.loop-slot.invariant.0 ∙ sym (blanks_more k)),
      c.in_ok-offset.ensures.block,
      c.in_ok-push.ensures.items
          ∙ (ap (λ l. l ++ record { attribute = record { 0 = k }; to = ref.New c.in_ok-offset.offset } ∷ []) c.loop-slot.invariant.2
          ∙ (ap (λ n. slot_features 0 k ++ record { attribute = record { 0 = k }; to = ref.New n } ∷ []) long
          ∙ (ap (λ n. slot_features 0 k ++ record { attribute = record { 0 = n }; to = ref.New n } ∷ []) (sym (zero-add k)) ∙ sym (features_more 0 k)))),
    )

pub top-requires-2-clause-rising : goal.top-requires-2-clause-rising
top-requires-2-clause-rising c =
    let same : c.deref.result.now ≡ slot_features 0 c.loop-slot.slot = search rules in
    subst (λ fs. IsStrictlyIncreasing (attributes fs)) (sym same) (features_rise 0 c.loop-slot.slot)

pub top-requires-2-clause-own : goal.top-requires-2-clause-own
top-requires-2-clause-own c =
    let same : c.deref.result.now ≡ slot_features 0 c.loop-slot.slot = search rules in
    let long : length c.loop-slot.block ≡ c.loop-slot.slot = ap length c.loop-slot.invariant.0 ∙ length-replicate {A = List Feature} c.loop-slot.slot [] in
    subst (λ fs. AllOwn (length c.loop-slot.block) fs) (sym same) (features_own 0 c.loop-slot.slot (length c.loop-slot.block) (omega (arith, long)))

pub returns : goal.returns
returns c =
    let n = c.args.slots in
    let at : c.loop-slot.slot ≡ n = omega (arith, c.loop-slot-test.false, c.loop-slot.auto.slot-end) in
    let same : c.deref.result.now ≡ slot_features 0 c.loop-slot.slot = search rules in
    let block : c.loop-slot.block ≡ replicate n [] = c.loop-slot.invariant.0 ∙ ap (λ k. replicate k []) at in
    blank_is_least n c.top-2.new.block c.in_ok-root.root c.in_ok-root.ensures.block
    (c.in_ok-root.ensures.new.1 ∙ (ap (λ b. b ++ c.deref.result.now ∷ []) block ∙ ap (λ fs. replicate n [] ++ fs ∷ []) (same ∙ ap (slot_features 0) at)))
    (c.in_ok-root.ensures.new.0 ∙ (ap length block ∙ length-replicate {A = List Feature} n []))
