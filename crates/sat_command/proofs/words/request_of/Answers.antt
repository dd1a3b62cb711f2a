use Rattle.std.proofs.Common.{arith, map, string_bytes, sym}
use Rattle.std.proofs.lemmas.List.{length-map}
use Rattle.sat_command.proofs.Asking.{request_other}
use Rattle.sat_command.proofs.words.request_of.Goals as goal

pub returns-in-len2 : goal.returns-in-len2
returns-in-len2 c = sym (request_other (map string_bytes c.args.words.now)
    (λ e. omega (arith, length-map c.args.words.now string_bytes, c.in-len2.len_at_least, c.in-len2.len_below))
    (λ e. omega (arith, length-map c.args.words.now string_bytes, c.in-len2.len_at_least, c.in-len2.len_below))
    (λ e. omega (arith, length-map c.args.words.now string_bytes, c.in-len2.len_at_least, c.in-len2.len_below)))

pub returns-in-len4 : goal.returns-in-len4
returns-in-len4 c = sym (request_other (map string_bytes c.args.words.now)
    (λ e. omega (arith, length-map c.args.words.now string_bytes, c.in-len4.len_at_least, c.in-len4.len_below))
    (λ e. omega (arith, length-map c.args.words.now string_bytes, c.in-len4.len_at_least, c.in-len4.len_below))
    (λ e. omega (arith, length-map c.args.words.now string_bytes, c.in-len4.len_at_least, c.in-len4.len_below)))
