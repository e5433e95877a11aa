-- Tables of texts serve for canonical texts.
use Rattle.std.specs.Prelude.{◌≡◌, ℕ, List, Some}
use Rattle.patr_model.specs.Text.{Outline}
use Rattle.patr_model.specs.Reading.{parsed}
use Rattle.patr_model.specs.Table.{table_look, table_number, IsTable, IsInTable, AllTexts}
use Rattle.patr_model.specs.Laws.{TextsDiffer, HasSymbols}

-- A table of different texts gives a Look with different texts, and has the symbols of each text
-- whose parts are in it.
pub record TableGives (table : List (List ℕ)) (order : List ℕ) : Type 0 where
  pub differ : IsTable table → TextsDiffer (table_look table order)
  pub symbols : (text : List ℕ)
      → ((o : Outline (List ℕ)) → parsed text ≡ Some o → AllTexts (IsInTable table) o)
      → HasSymbols (table_look table order) (table_number table) text

-- each table of different texts serves to write canonical texts and to read them back
abbrev pub TablesGive : Type 0
TablesGive = (table : List (List ℕ)) (order : List ℕ) → TableGives table order
