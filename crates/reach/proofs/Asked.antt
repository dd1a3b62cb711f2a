-- What the machine answers, by what is told of its queries.
use Rattle.std.proofs.Common.{◌≡◌, sym, ap, ◌∙◌, subst, ℕ, ℤ, Bool as Truth, false, List, [], ◌∷◌}
use Rattle.std.specs.Prelude.{IsTrue}
use Rattle.clauses.specs.Logs.{LogEntry}
use Rattle.joint.specs.Joined.{Joined}
use Rattle.joint.specs.Slices.{bits_from}
use Rattle.joint_theory.specs.Bits.{joint_width}
use Rattle.netlist.specs.Sound as netlists
use Rattle.reach_frames.specs.Bits.{is_in_cube}
use Rattle.reach_frames.specs.Cubes.{negated, IsCube, IsFrame}
use Rattle.reach_frames.specs.Entries.{HasNoEntry}
use Rattle.reach_frames.specs.Systems.{IsEntry}
use Rattle.reach_frames.specs.declared.stop.ReachQuery.TheVariants.{Initial, Relative}
use Rattle.run_terms.specs.Automata as automata
use Rattle.run_terms.specs.Automata.{TestsSignals}
use Rattle.reach.specs.Questions.{IsTold}
use Rattle.reach.specs.Systems.{system_of, BeginsAs}
use Rattle.reach.specs.declared.asking.Told.{Told}
use Rattle.reach.specs.declared.asking.Told.TheVariants.{Model, Refuted}
use Rattle.reach.proofs.ModelReads.{no-entry, none-begun, read-begun, read-entry}
use Rattle.reach.proofs.Plain.{frame-within, one-frame}

module _ (joined : Joined) (sound : netlists.IsSound joined.design) (right : automata.IsSound joined.automaton)
    (tests : TestsSignals joined.design joined.automaton) (steps : ℕ) (told : Told) where
  abbrev width : ℕ
  width = joint_width joined.design joined.automaton joined.visits

  -- whether a state begins in a cube

  module _ (cube : List ℤ) (is : IsCube width cube) (clauses : List (List ℤ)) (alone : clauses ≡ negated cube ∷ []) (answer : IsTold joined steps (Initial clauses) told) where
    pub begun-some : (values : List Truth) → told ≡ Model values → (count : ℕ) → count ≡ width → (bits : List Truth)
        → bits ≡ bits_from values 0 count → BeginsAs joined bits × IsTrue (is_in_cube cube bits)
    begun-some values model count many bits are =
        let of_clauses : IsTold joined steps (Initial clauses) (Model values) = subst (IsTold joined steps (Initial clauses)) model answer in
        let of_cube : IsTold joined steps (Initial (negated cube ∷ [])) (Model values) =
        subst (λ (cs : List (List ℤ)). IsTold joined steps (Initial cs) (Model values)) alone of_clauses in
        let same : bits ≡ bits_from values 0 width = are ∙ ap (λ (n : ℕ). bits_from values 0 n) many in
        subst (λ (b : List Truth). BeginsAs joined b × IsTrue (is_in_cube cube b)) (sym same)
        (read-begun joined sound right tests cube is.within (frame-within width (negated cube ∷ []) (one-frame width cube is)) values of_cube.1)

    pub begun-none : (log : List LogEntry) (count : ℕ) → told ≡ Refuted log count → (bits : List Truth) → BeginsAs joined bits
        → is_in_cube cube bits ≡ false
    begun-none log count refuted =
        let of_clauses : IsTold joined steps (Initial clauses) (Refuted log count) = subst (IsTold joined steps (Initial clauses)) refuted answer in
        let of_cube : IsTold joined steps (Initial (negated cube ∷ [])) (Refuted log count) =
        subst (λ (cs : List (List ℤ)). IsTold joined steps (Initial cs) (Refuted log count)) alone of_clauses in
        none-begun joined sound right tests cube is.within (frame-within width (negated cube ∷ []) (one-frame width cube is)) steps log of_cube

  -- whether something leads into a cube

  module _ (frame : List (List ℤ)) (initial : Truth) (cube : List ℤ) (framed : IsFrame width frame) (is : IsCube width cube)
      (answer : IsTold joined steps (Relative frame initial cube) told) where
    pub entry-some : (values : List Truth) → told ≡ Model values → (count : ℕ) → count ≡ width → (before after : List Truth)
        → before ≡ bits_from values 0 count → after ≡ bits_from values count count
        → IsEntry (system_of joined) frame initial cube (record { before = before; after = after })
    entry-some values model count many before after first second =
        let here : IsTold joined steps (Relative frame initial cube) (Model values) = subst (IsTold joined steps (Relative frame initial cube)) model answer in
        let one : before ≡ bits_from values 0 width = first ∙ ap (λ (n : ℕ). bits_from values 0 n) many in
        let two : after ≡ bits_from values width width = second ∙ ap (λ (n : ℕ). bits_from values n n) many in
        subst (λ (b : List Truth). IsEntry (system_of joined) frame initial cube (record { before = b; after = after })) (sym one)
        (subst (λ (b : List Truth). IsEntry (system_of joined) frame initial cube (record { before = bits_from values 0 width; after = b })) (sym two)
        (read-entry joined sound right tests frame (frame-within width frame framed) initial cube is.within values here.1))

    pub entry-none : (log : List LogEntry) (count : ℕ) → told ≡ Refuted log count → HasNoEntry (system_of joined) frame initial cube
    entry-none log count refuted =
        let here : IsTold joined steps (Relative frame initial cube) (Refuted log count) = subst (IsTold joined steps (Relative frame initial cube)) refuted answer in
        no-entry joined sound right tests frame (frame-within width frame framed) initial cube is.within steps log here
