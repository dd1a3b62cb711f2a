use Rattle.std.proofs.Common.{◌≡◌, pos, map, take}
use Rattle.std.specs.Bool.{IsTrue}
use Rattle.std.specs.List.{list_all}
use Rattle.clauses.specs.Logs.{is_number}
use Rattle.clause_text.proofs.words.as_numbers.Given as goal

abbrev pub invariant-loop-literal : goal.invariant-loop-literal
invariant-loop-literal l = record {
  same : take l.literal-index l.literals ≡ map (λ number. pos number) l.numbers.items;
  numbers : IsTrue (list_all is_number l.numbers.items);
}
