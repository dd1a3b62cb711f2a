use Rattle.std.proofs.Common.{◌≡◌, ◌+◌, ◌≤◌, ◌++◌, suc, length}
use Rattle.std.specs.Bool.{IsTrue}
use Rattle.std.specs.List.{list_all}
use Rattle.clauses.specs.Logs.{log_words}
use Rattle.clause_text.specs.declared.fault.TheConstants.{MOST_READ_WORDS}
use Rattle.clause_text.specs.Lines.{lines_of, has_line}
use Rattle.clause_text.proofs.reading.read_lines.Given as goal

abbrev pub invariant-loop-rest : goal.invariant-loop-rest
invariant-loop-rest l = record {
  text : l.bytes ≡ lines_of l.log ++ l.rest;
  entries : IsTrue (list_all (has_line l.drops) l.log);
  few : log_words l.log ≤ MOST_READ_WORDS;
  line : l.line ≡ suc (length l.log);
  room : l.line + length l.rest ≤ length l.bytes + 1;
}

abbrev pub decreases-loop-rest : goal.decreases-loop-rest
decreases-loop-rest l = length l.rest
