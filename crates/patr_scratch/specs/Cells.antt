-- The cells of added arcs, and the lists that they are linked to.
use Rattle.std.specs.Prelude.{ℕ, zero, suc, Option, Some, None, List, [], ◌∷◌, get_or, set}
use Rattle.patr_scratch.specs.declared.arc.ArcCell.{ArcCell}
use Rattle.patr_scratch.specs.declared.Target.TheVariants.{Atom}
use Rattle.patr_scratch.specs.Contents.{Link}

-- what is read where there is no cell
abbrev pub no_cell : ArcCell
no_cell = record { attribute = 0; to = Atom 0; next = None }

-- a cell by its number
abbrev pub cell_at : List ArcCell → ℕ → ArcCell
cell_at cells k = get_or cells k no_cell

-- the same cells, of which one leads to another next one
abbrev pub relink : List ArcCell → ℕ → Option ℕ → List ArcCell
relink cells k next = set cells k (record (cell_at cells k) { next = next })

-- the arc in a cell
abbrev pub link_at : List ArcCell → ℕ → Link
link_at cells c = record { cell = c; attribute = (cell_at cells c).attribute; to = (cell_at cells c).to }

-- the list that begins at a cell, as far as so many cells
abbrev pub read : ℕ → List ArcCell → Option ℕ → List Link
read zero cells first = []
read (suc n) cells None = []
read (suc n) cells (Some c) = link_at cells c ∷ read n cells (cell_at cells c).next
