use Rattle.std.proofs.Common.{◌≡◌, ◌++◌, [], length, take, codes, decimal}
use Rattle.patr_reply.proofs.Names.{item_line, line, numbered, string_bytes, table_look}
use Rattle.patr_arena.specs.Arenas.{shown_of}
use Rattle.patr_reply.proofs.shown.listed.Given as goal

abbrev pub invariant-loop-number : goal.invariant-loop-number
invariant-loop-number l =
    string_bytes l.text ≡ line (codes "entries " ++ decimal (length l.places)) ++ numbered (item_line (table_look l.symbols []) (shown_of l.arena) l.items) 1 (take l.number l.places)
