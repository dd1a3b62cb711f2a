-- A trace is read as what it was written of: it is one of vectors that are one signal each.
use Rattle.std.proofs.Common.{◌≡◌, ◌∙◌, refl, sym, ap, subst, ℕ, zero, suc, ◌+◌, ◌<◌, ◌≤◌, List, [], ◌∷◌, length, map, Ok, arith, inl}
use Rattle.std.specs.Prelude.{All}
use Rattle.std.specs.List.{range_with_len}
use Rattle.std.proofs.lemmas.List.FromFn.{get_or-map-range_with_len}
use Rattle.std.proofs.lemmas.List.Sums.{sum_by-append}
use Rattle.netlist.specs.Design.{Design}
use Rattle.netlist.specs.Runs.{IsMade}
use Rattle.netlist.specs.declared.run.Run.{Run}
use Rattle.psl_tree.specs.declared.name.Name.{Name}
use Rattle.trace.proofs.Singles.{many, says-same, text-same}
use Rattle.trace.proofs.VectorSamples.{vectors-read}
use Rattle.trace.specs.Trace.{count_of, first_text, trace_sampled, trace_text}
use Rattle.trace.specs.Vectors.{IsVector, bits_in, single, singles}
use Rattle.trace.specs.Words.{HasWords}
use Rattle.trace.specs.declared.vectors.Vector.{Vector}
use Rattle.vcd_reader.specs.Declarations.{bits_most}
use Rattle.vcd_reader.specs.Meaning.{reading}
use Rattle.vcd_reader.specs.Rules.{sample_limit}
use Rattle.vcd_reader.specs.Sampled.{Sampled}
use Rattle.vcd_reader.specs.declared.unknown.Unknown.{Unknown}

singles-are : (design : Design) → HasWords design → All IsVector (singles design)
singles-are design words place other within =
    let below : place < design.signals = omega (arith, within, many design) in
    subst IsVector (sym (get_or-map-range_with_len (λ (signal : ℕ). single (first_text design.names signal) signal) 0 design.signals place place other below (omega arith)))
    (record { word = words place below; either = inl (record { high = refl; low = refl; one = refl }) })

single-bits : (names : List Name) (first count : ℕ) → bits_in (map (λ (signal : ℕ). single (first_text names signal) signal) (range_with_len first count)) ≡ count
single-bits names first zero = refl
single-bits names first (suc count) =
    let rest = single-bits names (first + 1) count in
    let sum = sum_by-append (λ (v : Vector). length v.signals) (single (first_text names first) first ∷ []) (map (λ (signal : ℕ). single (first_text names signal) signal) (range_with_len (first + 1) count)) in
    omega (arith, rest, sum)

pub trace-read : (unknown : Unknown) (design : Design) (run : Run) (loops : ℕ) → IsMade design run → HasWords design → design.signals ≤ bits_most → count_of run loops ≤ sample_limit
    → reading unknown (trace_text design run loops) ≡ Ok (trace_sampled unknown design run loops)
trace-read unknown design run loops is words few short =
    ap (reading unknown) (sym (text-same design run loops is))
    ∙ vectors-read unknown (singles design) run loops (singles-are design words) (let bits = single-bits design.names 0 design.signals in omega (arith, bits, few)) short
    ∙ ap (λ (s : Sampled). Ok s) (says-same unknown design run loops is)
