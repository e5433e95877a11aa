-- The reply to `:show`, by the items of a word's entries.
use Rattle.std.proofs.Common.{◌≡◌, ℕ, suc, List, [], ◌∷◌, ◌++◌, length, map, Option, Some, None, nat_eq, eqb-true, eq-eqb, ltb-true, slice_get, codes, decimal, refl, sym, ap, ◌∙◌, subst}
use Rattle.patr_reply.proofs.Names.{AgreesWith, AllByRecursion, AreHeldBy, EntryVariant, Extends, Grounds, HasNamed, IsEntryItem, IsItemReady, IsKnown, IsLeastValue, IsStored, Leaf, Numbering, Rules, Shown, Solution, Stored, all_at, canonical, entry_variant, grounds, is_of_word, item_line, item_value, items_text, length-map, line, look_by, numbered, rules_of, some_inj, table_look, value_of, word_at}
use Rattle.patr_lists.specs.Numbers.{places}
use Rattle.patr_lists.specs.Members.{IsIn}
use Rattle.patr_lists.proofs.Alls.{all_each}
use Rattle.patr_model.specs.Derivation.{Derivation}
use Rattle.patr_model.specs.Solution.{IsSolvable}
use Rattle.patr_model.specs.Showing.{IsShown, AreShown, ListsValues, IsShowReply, unknown, shown}
use Rattle.patr_arena.specs.Shown.{ValueIsHeld}
use Rattle.patr_canon.specs.Walks.{AreSpelled}
use Rattle.patr_text.specs.Texts.{first_texts}
use Rattle.patr_lexicon.specs.declared.lexicon.Entry as code
use Rattle.patr_library.specs.declared.item.EntryItem.{EntryItem}
use Rattle.patr_library.specs.Stored.{is_number}
use Rattle.patr_parse.specs.Begun.{leaf, leaf_of, leaves_at}
use Rattle.patr_parse.proofs.Items.{IsLeaf, in_leaves, leaves_in, leaves_rise, placed_is}
use Rattle.patr_reply.proofs.Holding.{below, are_named, entry_from}
use Rattle.patr_reply.proofs.KnownWords.{known, known_back}
use Rattle.patr_reply.proofs.LeastTexts.{named_text}
use Rattle.patr_reply.proofs.Listing.{texts_by}
use Rattle.patr_reply.proofs.Naming.{least_values_name_symbols}
use Rattle.patr_reply.proofs.Sounding.{table_long}

-- ---- the item that is found at a place

module _ (n : ℕ) (v : Shown) (items : List EntryItem) (k : ℕ) (ready : IsItemReady n v items k) (i : EntryItem) (at : slice_get items k ≡ Some i) where
  same_item : ready.item ≡ i
  same_item = some_inj ready.item i (sym ready.there ∙ at)

  pub item_held : ValueIsHeld v i.root
  item_held = subst (λ (x : EntryItem). ValueIsHeld v x.root) same_item ready.held

  pub item_spelled : AreSpelled n v.structure (value_of v i.root)
  item_spelled = subst (λ (x : EntryItem). AreSpelled n v.structure (value_of v x.root)) same_item ready.spelled

-- ---- the items of a word

module _ (s : Stored) (table : List (List ℕ)) (first : Extends first_texts table) (held : AreHeldBy (length table) s) (stored : IsStored s) where
  abbrev g : Rules
  g = rules_of s

  item_of : (k : ℕ) (i : EntryItem) → slice_get s.entries k ≡ Some i → IsEntryItem g s.shown i
  item_of k i at = all_at (IsEntryItem g s.shown) s.entries stored.entry_items k i at

  named_item : (k : ℕ) (i : EntryItem) → slice_get s.entries k ≡ Some i → HasNamed (below (length table)) s.shown.structure (value_of s.shown i.root)
  named_item k i at =
      least_values_name_symbols (below (length table)) g (Leaf i.entry i.variant 0 1) s.shown.structure (value_of s.shown i.root) (are_named (length table) (table_long table first) s held) tt ((item_of k i at).least 0 1)

  pub items_ready : (w : ℕ) → AllByRecursion (IsItemReady (length table) s.shown s.entries) (places (is_of_word s.lexicon w) 0 s.entries)
  items_ready w = all_each (IsItemReady (length table) s.shown s.entries) (places (is_of_word s.lexicon w) 0 s.entries) (λ k h.
      let p = placed_is (is_of_word s.lexicon w) s.entries k h in
      let named = named_item k p.0 p.1 in
      record {
        item = p.0;
        there = p.1;
        held = (item_of k p.0 p.1).held;
        spelled = record { atoms = λ p c h. ltb-true c (length table) (named.atoms p c h); attributes = λ p x a y h q. ltb-true a (length table) (named.attributes p x a y h q) };
      })

  -- an entry is of a word exactly where its variants are
  of_word : (w e k : ℕ) (v : EntryVariant) → entry_variant g e k ≡ Some v → is_number (word_at s.lexicon e) w ≡ nat_eq v.word w
  of_word w e k v q =
      let x = entry_from s e k v q in
      ap (λ o. is_number (go o) w) x.1 ∙ ap (λ n. nat_eq n w) (sym x.2.1)
    where
      go : Option code.Entry → Option ℕ
      go None = None
      go (Some x) = Some x.word.0

  -- ---- under a numbering

  module _ (names : Numbering) (agrees : AgreesWith names table) where
    abbrev ground : Grounds
    ground = grounds names s

    module _ (w : List ℕ) (id : ℕ) (number : slice_get table id ≡ Some w) where
      is_shown : (t : Derivation) → IsLeaf s stored id 0 t → IsShown ground w t
      is_shown t l =
          let i = item_of l.number l.item l.there in
          let least = i.least 0 1 in
          record {
            entry = l.item.entry;
            number = l.item.variant;
            leaf = l.is;
            variant = i.variant;
            is = i.is;
            word = eqb-true i.variant.word id (sym (of_word id l.item.entry l.item.variant i.variant i.is) ∙ l.word) ∙ sym (agrees id w number);
            solvable = (least.solution.0, least.solution.1, subst (λ u. Solution g u least.solution.0 least.solution.1) (sym l.is) least.solution.2);
          }

      shown_in : (t : Derivation) → IsShown ground w t → IsIn (leaves_at s id 0) t
      shown_in t h =
          let solved = subst (IsSolvable g) h.leaf h.solvable in
          let e = stored.every_entry h.entry h.number 0 1 solved in
          let same : entry_variant g e.1.entry e.1.variant ≡ Some h.variant = (λ i. entry_variant g (e.3 i) (e.4 i)) ∙ h.is in
          let word = of_word id e.1.entry e.1.variant h.variant same ∙ eq-eqb h.variant.word id (h.word ∙ agrees id w number) in
          subst (IsIn (leaves_at s id 0)) ((λ i. Leaf (e.3 i) (e.4 i) 0 1) ∙ sym h.leaf) (leaves_in s stored id 0 e.0 e.1 e.2 word)

      are_shown : AreShown ground w (leaves_at s id 0)
      are_shown = record {
        rises = leaves_rise s stored id 0;
        each = all_each (IsShown ground w) (leaves_at s id 0) (λ t h. is_shown t (in_leaves s stored id 0 t h));
        every = shown_in;
      }

    values : (n : ℕ) (ks : List ℕ) → AllByRecursion (IsItemReady (length table) s.shown s.entries) ks → ListsValues ground n (map (leaf s 0) ks) (numbered (item_line (table_look table []) s.shown s.entries) n ks)
    values n [] ready = refl
    values n (k ∷ ks) ready =
        let i = ready.0.item in
        let at = ready.0.there in
        let l = item_of k i at in
        let x = value_of s.shown i.root in
        let least = l.least 0 1 in (
          canonical (table_look table []) s.shown.structure (item_value s.shown (slice_get s.entries k)),
          numbered (item_line (table_look table []) s.shown s.entries) (suc n) ks,
          (
            s.shown.structure,
            x,
            subst (λ o. IsLeastValue g (leaf_of o 0) s.shown.structure x) (sym at) least,
            ap (λ o. canonical (table_look table []) s.shown.structure (item_value s.shown o)) at
                ∙ named_text (below (length table)) s.shown.structure x least.structure least.held (named_item k i at) (table_look table []) (look_by names) refl (texts_by names table agrees),
          ),
          values (suc n) ks ready.1,
          refl,
        )

    pub reply_shown : (w : List ℕ) (id : ℕ) → IsKnown s table w → slice_get table id ≡ Some w → (text : List ℕ) → text ≡ items_text (table_look table []) s.shown s.entries (places (is_of_word s.lexicon id) 0 s.entries) → IsShowReply ground w text
    reply_shown w id is_known number text is =
        let ks = places (is_of_word s.lexicon id) 0 s.entries in
        shown (known s table names agrees held w is_known) (leaves_at s id 0) (numbered (item_line (table_look table []) s.shown s.entries) 1 ks) (are_shown w id number) (values 1 ks (items_ready id))
        (is ∙ ap (λ n. line (codes "entries " ++ decimal n) ++ numbered (item_line (table_look table []) s.shown s.entries) 1 ks) (sym (length-map ks (leaf s 0))))

-- a word without an entry
pub reply_unknown : (s : Stored) (table : List (List ℕ)) → AreHeldBy (length table) s → (names : Numbering) → AgreesWith names table → (w : List ℕ) → (IsKnown s table w → ⊥)
    → (text : List ℕ) → text ≡ line (codes "error: unknown word at 1: " ++ w) → IsShowReply (grounds names s) w text
reply_unknown s table held names agrees w none text is = unknown (λ k. none (known_back s table names agrees held w k)) is
