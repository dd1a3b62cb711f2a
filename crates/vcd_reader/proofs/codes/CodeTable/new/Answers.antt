use Rattle.std.proofs.Common.{rules, ◌≡◌, [], None, Some}
use Rattle.std.specs.List.{slice_get}
use Rattle.vcd_reader.proofs.Short.{short-none}
use Rattle.vcd_reader.proofs.codes.CodeTable.new.Goals as goal

pub invariant_of-result : goal.invariant_of-result
invariant_of-result c = (
  λ text. rw c.new-2.ensures.items (search rules),
  rw c.new-2.ensures.items (short-none _ c.in_ok-short.ensures.sized c.in_ok-short.ensures.zero),
  λ number text e. absurd (let no : slice_get [] number ≡ Some text = rw c.new-2.ensures.items at e in let wrong : None ≡ Some text = no in cc),
)
