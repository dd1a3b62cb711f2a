-- The laws of the automaton of a formula, and the worked examples.
use Rattle.std.proofs.Common.{◌≡◌, refl, sym, subst, List, []}
use Rattle.std.specs.Prelude.{◌↔◌, IsTrue, None}
use Rattle.psl_tree.specs.Followed.{Past, Nothing, Tops, Bottoms, followed}
use Rattle.psl_tree.specs.Satisfaction.{Sat}
use Rattle.psl_tree.specs.Trace.{Trace, trace_of}
use Rattle.psl_tree.specs.Views.{weak, neutral, strong}
use Rattle.psl_tree.proofs.Traces.{neutral-followed, weak-followed, strong-followed}
use Rattle.psl_tree.specs.Trees.{Formula}
use Rattle.psl_tree.specs.declared.letter.Letter.{Letter}
use Rattle.alternating_theory.specs.Construction.{HasNoClock}
use Rattle.alternating_theory.specs.Laws.{ValuesOf, NamesOf, SizeOf}
use Rattle.alternating_theory.specs.Obligations.{value_on}
use Rattle.alternating_theory.specs.Rows.{SizeRows}
use Rattle.alternating_theory.specs.Built.{built}
use Rattle.alternating_theory.proofs.Built.{built-means, built-count, built-names}

on-trace : (f : Formula) → HasNoClock f → (p : Past) (xs : List Letter) (w : Trace) → w ≡ followed xs p → IsTrue (value_on (built f) p xs) ↔ Sat w f None
on-trace f h p xs w e = subst (λ (v : Trace). IsTrue (value_on (built f) p xs) ↔ Sat v f None) (sym e) (built-means f h p xs)

pub values : (f : Formula) → HasNoClock f → ValuesOf (built f) f
values f h = record {
  on_word = λ xs. on-trace f h Nothing xs (trace_of (neutral xs)) (neutral-followed xs);
  on_weak = λ xs. on-trace f h Tops xs (trace_of (weak xs)) (weak-followed xs);
  on_strong = λ xs. on-trace f h Bottoms xs (trace_of (strong xs)) (strong-followed xs);
  at_end = on-trace f h Nothing [] (trace_of (neutral [])) (neutral-followed []);
  at_top = on-trace f h Tops [] (trace_of (weak [])) (weak-followed []);
  at_bottom = on-trace f h Bottoms [] (trace_of (strong [])) (strong-followed []);
}

pub names : (f : Formula) → HasNoClock f → NamesOf (built f)
names f h = built-names f h

pub size : (f : Formula) → HasNoClock f → SizeOf (built f) f
size f h = built-count f h

pub size_rows : SizeRows
size_rows = record { letter = refl; always_letter = refl; always_eventually = refl; handshake = refl; false_edge = refl; twice = refl; aborted = refl; next_twice = refl }
