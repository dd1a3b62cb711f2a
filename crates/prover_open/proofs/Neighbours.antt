-- Joint states along a path are neighbours, where each follows the one before.
use Rattle.std.proofs.Common.{◌≡◌, inl, inr, refl, sym, ap, ◌∙◌, subst, ℕ, zero, suc, ◌+◌, ◌-◌, ◌<◌, Bool as Truth, false, List, [], ◌∷◌, ◌++◌, length, Option, Some, arith, length-append}
use Rattle.std.specs.Prelude.{slice_get, slice_index_or, IfSome}
use Rattle.std.proofs.lemmas.List.Elements.{All-nil, All-push}
use Rattle.std.proofs.lemmas.Option.{get_or_from_slice_get, slice_get_within}
use Rattle.alternating_theory.specs.Obligations.{Automaton}
use Rattle.gates_frames.specs.Paths.{valuation_of, IsPath}
use Rattle.joint_theory.specs.Paths.{IsOpenOther}
use Rattle.joint_theory.specs.States as states
use Rattle.joint_theory.specs.States.{is_listed, may_meet, AreAsked, AreMet, AreNeighbours, IsState}
use Rattle.joint_theory.specs.declared.path.JointPath.{JointPath}
use Rattle.joint_theory.specs.declared.path.JointState.{JointState}
use Rattle.netlist.specs.Design.{Design}
use Rattle.netlist.specs.Valuations.{IsStep, IsValuation}
use Rattle.psl_tree.specs.declared.letter.Letter.{Letter}
use Rattle.run_terms.specs.Letters.{letter_after}
use Rattle.prover_held.specs.Lasting.{before_in, letter_in}
use Rattle.prover_held.proofs.Paths.{path-valid}
use Rattle.prover_open.specs.Open.{EndsBadly}
use Rattle.prover_open.specs.Standing.{AreOwed, Follows, StandAlong, Stands}
use Rattle.prover_open.proofs.Pushed.{pushed}

module _ (d : Design) (a : Automaton) (path : List (List Truth)) (is : IsPath d false path) where
  before-valid : (place : ℕ) → place < length path → IfSome (before_in path place) (IsValuation d)
  before-valid zero low = tt
  before-valid (suc place) low = path-valid d path is place (omega arith)

  pub stands-state : (place : ℕ) (state : JointState) → place < length path → Stands path place state → AreOwed a state → IsState d a 0 state
  stands-state place state low stands owes = record {
    before = subst (λ (o : Option (List Truth)). IfSome o (IsValuation d)) (sym stands.before) (before-valid place low);
    valuation = subst (λ (v : List Truth). IsValuation d v) (sym stands.valuation) (path-valid d path is place low);
    owed = owes.owed.rising;
    numbers = owes.owed.below;
    pending = owes.pending.numbers.rising;
    among = owes.pending.among;
    put_off = owes.pending.put_off;
    count = owes.count;
  }

  letter-is : (place : ℕ) (state : JointState) → Stands path place state → letter_in d path place ≡ states.letter_in d state
  letter-is place state stands =
      sym (ap (λ (o : Option (List Truth)). letter_after d.names o state.valuation) stands.before
      ∙ ap (λ (v : List Truth). letter_after d.names (before_in path place) v) stands.valuation)

  pub follows-neighbours : (place : ℕ) (now next : JointState) → suc place < length path → Stands path place now → Follows d a path place now next
      → AreNeighbours d a 0 now next
  follows-neighbours place now next low stands follows =
      let same = letter-is place now stands in
      let offered = follows.offered in
      record {
        step = subst (λ (v : List Truth). IsStep d v next.valuation) (sym stands.valuation)
            (subst (λ (v : List Truth). IsStep d (valuation_of path place) v) (sym offered.stands.valuation) (is.steps place low));
        before = offered.stands.before ∙ ap Some (sym stands.valuation);
        owed = subst (λ (letter : Letter). AreMet a letter (is_listed next.owed) now.owed) same follows.owed;
        supported = subst (λ (letter : Letter). AreAsked a letter now.owed next.owed) same offered.supported;
        put_off = λ some. record {
          met = subst (λ (letter : Letter). AreMet a letter (may_meet a next) now.pending) same follows.pending;
          supported = subst (λ (letter : Letter). AreAsked a letter now.pending next.pending) same (offered.pending some);
          count = offered.count some;
        };
        anew = offered.anew;
      }

  pub along-first : (first : JointState) (list : List JointState) → list ≡ [] ++ first ∷ [] → Stands path 0 first → AreOwed a first → StandAlong d a path 1 list
  along-first first list same stands owes = subst (λ (l : List JointState). StandAlong d a path 1 l) (sym same) (record {
    size = refl;
    stand = λ place state at. elim (pushed [] first state place at) [
      | inl k ↦ absurd (let low = slice_get_within [] place state k in omega (arith, low))
      | inr e ↦ subst (λ (s : JointState). Stands path place s) e.1 (subst (λ n. Stands path n first) (sym e.0) stands)
    ];
    owe = λ place state at. elim (pushed [] first state place at) [
      | inl k ↦ absurd (let low = slice_get_within [] place state k in omega (arith, low))
      | inr e ↦ subst (λ (s : JointState). AreOwed a s) e.1 owes
    ];
    joint = record {
      states = All-push (IsState d a 0) [] first (All-nil (IsState d a 0)) (stands-state 0 first is.some stands owes);
      neighbours = λ place state next at after. elim (pushed [] first next (suc place) after) [
        | inl k ↦ absurd (let low = slice_get_within [] (suc place) next k in omega (arith, low))
        | inr e ↦ absurd (let none = e.0 in omega (arith, none))
      ];
    };
  })

  pub along-more : (count : ℕ) (list : List JointState) (now next : JointState) (longer : List JointState) → StandAlong d a path count list → 0 < count → count < length path
      → slice_get list (count - 1) ≡ Some now → Follows d a path (count - 1) now next → longer ≡ list ++ next ∷ [] → StandAlong d a path (count + 1) longer
  along-more count list now next longer along some low here follows same = subst (λ (l : List JointState). StandAlong d a path (count + 1) l) (sym same) (record {
    size = length-append list (next ∷ []) ∙ ap (λ n. n + 1) along.size;
    stand = λ place state at. elim (pushed list next state place at) [
      | inl k ↦ along.stand place state k
      | inr e ↦ subst (λ (s : JointState). Stands path place s) e.1 (subst (λ n. Stands path n next) (sym (e.0 ∙ along.size)) stands)
    ];
    owe = λ place state at. elim (pushed list next state place at) [
      | inl k ↦ along.owe place state k
      | inr e ↦ subst (λ (s : JointState). AreOwed a s) e.1 follows.offered.owes
    ];
    joint = record {
      states = All-push (IsState d a 0) list next along.joint.states (stands-state count next low stands follows.offered.owes);
      neighbours = λ place state other at after. elim (pushed list next other (suc place) after) [
        | inl k ↦ elim (pushed list next state place at) [
          | inl j ↦ along.joint.neighbours place state other j k
          | inr e ↦ absurd (let size = slice_get_within list (suc place) other k in let end = e.0 in omega (arith, size, end))
        ]
        | inr e ↦ elim (pushed list next state place at) [
          | inl j ↦
              let end : place ≡ count - 1 = let f = e.0 in let g = along.size in omega (arith, f, g) in
              let one : state ≡ now = sym (get_or_from_slice_get list place state now j) ∙ ap (λ n. slice_index_or list n now) end ∙ get_or_from_slice_get list (count - 1) now now here in
              subst (λ (s : JointState). AreNeighbours d a 0 s other) (sym one) (subst (λ (s : JointState). AreNeighbours d a 0 now s) e.1 last)
          | inr f ↦ absurd (let end = e.0 in let other_end = f.0 in omega (arith, end, other_end))
        ]
      ];
    };
  })
    where
      back : suc (count - 1) ≡ count
      back = omega arith

      stands : Stands path count next
      stands = subst (λ n. Stands path n next) back follows.offered.stands

      last : AreNeighbours d a 0 now next
      last = follows-neighbours (count - 1) now next (omega arith) (along.stand (count - 1) now here) follows

  pub along-open : (window : ℕ) (joint : JointPath) → StandAlong d a path (length path) joint.states → window ≡ length path - 1
      → EndsBadly (length joint.states - 1) joint → IsOpenOther d a 0 window joint
  along-open window joint along size ends =
      let e : length joint.states - 1 ≡ window = ap (λ n. n - 1) along.size ∙ sym size in
      let f = subst (λ n. EndsBadly n joint) e ends in
      record {
        joint = along.joint;
        many = let some = is.some in let g = along.size in omega (arith, some, g, size);
        different = f.different;
        not_bad = f.not_bad;
        last = f.last;
      }
