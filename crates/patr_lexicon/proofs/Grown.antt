-- Entries that were read stay what was read while the table grows.
use Rattle.std.proofs.Common.{◌≡◌, ℕ, List, map, sym, subst}
use Rattle.patr_lexicon.proofs.Names.{EntryOf, EntryText, SameFeatureText, SameEntryText, Both, SameRow, with_text, Extends, extends_with, extends_trans, each_still, text_still, IsEntryOf, AreEntriesOf}
use Rattle.patr_text.specs.declared.symbols.Id.{Id}
use Rattle.patr_grammar.specs.Reading.{IsText, features_seen}
use Rattle.patr_grammar.proofs.Grown.{both_still, feature_still, row_still}
use Rattle.patr_lexicon.specs.Seen.{entry_seen}
use Rattle.patr_lexicon.specs.declared.lexicon.Entry as code

-- what belongs together by fewer pairs of words does by more
module _ {W V : Type 0} (P Q : W → V → Type 0) (f : (x : W) (y : V) → P x y → Q x y) where
  entry_still : (x : EntryOf W) (y : EntryOf V) → SameEntryText P x y → SameEntryText Q x y
  entry_still x y h = record {
    line = h.line;
    word = f x.word y.word h.word;
    category = f x.category y.category h.category;
    gloss = both_still P Q f x.gloss y.gloss h.gloss;
    features = row_still (SameFeatureText P) (SameFeatureText Q) (feature_still P Q f) x.features y.features h.features;
  }

-- entries that were read stay what was read in a longer table
pub entries_still : (old new : List (List ℕ)) → Extends old new → (es : List code.Entry) (ts : List EntryText) → AreEntriesOf old es ts → AreEntriesOf new es ts
entries_still old new e es ts h =
    let f : (i : Id) (t : List ℕ) → IsText old i t → IsText new i t = λ i t is. text_still old new e i.0 t is in
    each_still (SameEntryText (IsText old)) (SameEntryText (IsText new)) (entry_still (IsText old) (IsText new) f) (map entry_seen es) ts h

-- ---- the texts of one entry

-- a text, another, and then more
pub held_text : (old new later : List (List ℕ)) (t : List ℕ) → new ≡ with_text old t → Extends new later → Extends old later
held_text old new later t is more = extends_trans old new later (subst (Extends old) (sym is) (extends_with old t)) more

-- an entry whose texts got their numbers one after another, in tables of which each extends the one before
pub entry_held : (e : code.Entry) (t : EntryText) (words categories glosses new : List (List ℕ)) → Extends words new → Extends categories new → Extends glosses new
    → e.line ≡ t.line → IsText words e.word t.word → IsText categories e.category t.category → Both (IsText glosses) e.gloss t.gloss → SameRow (SameFeatureText (IsText new)) (features_seen e.features.items) t.features
    → IsEntryOf new e t
entry_held e t words categories glosses new a b c line word category gloss features = record {
  line = line;
  word = text_still words new a e.word.0 t.word word;
  category = text_still categories new b e.category.0 t.category category;
  gloss = both_still (IsText glosses) (IsText new) (λ i u is. text_still glosses new c i.0 u is) e.gloss t.gloss gloss;
  features = features;
}
