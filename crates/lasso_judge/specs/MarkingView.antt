-- The program's marking of cells as plain data.
use Rattle.lasso_judge.specs.declared.marking.Marking as code_marking
use Rattle.sere_nfa.specs.Marking.{Marking}

abbrev pub marking_of : code_marking.Marking → Marking
marking_of marking = record { marks = marking.marks.items; waiting = marking.waiting.items }
