-- The automaton of a formula: of its part what is reached from the start, merged.
use Rattle.std.specs.Prelude.{[], ◌∷◌, ◌++◌, length}
use Rattle.psl_tree.specs.Trees.{Formula}
use Rattle.alternating_theory.specs.Construction.{Part, part_of}
use Rattle.alternating_theory.specs.Merged.{merged}
use Rattle.alternating_theory.specs.Obligations.{Automaton}
use Rattle.alternating_theory.specs.Trimmed.{trimmed}

-- the automaton of a part from 0 on, before obligations are merged
abbrev pub finished : Part → Automaton
finished part = trimmed (part.rest ++ part.start ∷ []) (length part.rest)

-- so it is of a formula without clocks
abbrev pub unmerged : Formula → Automaton
unmerged formula = finished (part_of 0 formula)

-- the automaton of a formula without clocks
abbrev pub built : Formula → Automaton
built formula = merged (unmerged formula)
