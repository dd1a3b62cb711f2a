-- The program's marking as plain data.
use Rattle.sere_nfa.specs.Marking.{Marking}
use Rattle.sere_nfa.specs.declared.marking.Marking as code_marking

abbrev pub marking_of : code_marking.Marking → Marking
marking_of marking = record { marks = marking.marks.items; waiting = marking.waiting.items }
