use Rattle.std.proofs.Common.{◌++◌, flat_map, sym, ap}
use Rattle.patr_canon.proofs.Names.{escaped, if_ok_is, string_bytes}
use lib.Utf8.{encode}
use Rattle.patr_canon.proofs.Quoted.{plain_char}
use Rattle.patr_canon.proofs.printed.write_escaped.Goals as goal

pub returns-else-character-eq92 : goal.returns-else-character-eq92
returns-else-character-eq92 c =
    if_ok_is c.push.result (string_bytes c.push.new.self) (string_bytes c.args.out.now ++ encode c.args.character) (string_bytes c.args.out.now) (string_bytes c.args.out.now ++ flat_map escaped (encode c.args.character)) c.push.ensures.bytes
    (ap (λ l. string_bytes c.args.out.now ++ l) (sym (plain_char c.args.character c.if-character-eq34.false c.if-character-eq92.false)))
