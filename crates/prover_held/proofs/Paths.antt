-- Paths: their valuations, and one more of them.
use Rattle.std.proofs.Common.{subst, ◌≡◌, inl, inr, ℕ, zero, suc, ◌+◌, ◌-◌, ◌<◌, Bool, true, false, List, [], ◌∷◌, ◌++◌, length, get_or, Some, sym, ap, ◌∙◌, arith, length-append}
use Rattle.std.specs.Prelude.{slice_get}
use Rattle.std.proofs.lemmas.Bool.{cases_lt}
use Rattle.std.proofs.lemmas.List.{get_or_append_left, get_or-append-add, get_or_default}
use Rattle.std.proofs.lemmas.Option.{get_or_from_slice_get}
use Rattle.netlist.specs.Design.{Design}
use Rattle.netlist.specs.Valuations.{values, IsInitial, IsStep, IsValuation}
use Rattle.gates_frames.specs.Paths.{valuation_of, Begins, IsPath}
use Rattle.prover_held.specs.Judged.{HaveSignals}

begins-valid : (d : Design) (initial : Bool) (first : List Bool) → Begins d initial first → IsValuation d first
begins-valid d true first is = is.valuation
begins-valid d false first is = is

pub path-valid : (d : Design) {initial : Bool} (path : List (List Bool)) → IsPath d initial path → (place : ℕ) → place < length path
    → IsValuation d (valuation_of path place)
path-valid d {initial} path is zero low = begins-valid d initial (valuation_of path 0) is.begins
path-valid d path is (suc place) low = (is.steps place low).after

pub path-signals : (d : Design) {initial : Bool} (path : List (List Bool)) → IsPath d initial path → HaveSignals d path
path-signals d {initial} path is place other low =
    subst (λ (v : List Bool). length v ≡ d.signals) (get_or_default path place [] other low) (path-valid d {initial = initial} path is place low).size

-- a path from any valuation that begins with an initial one
pub path-initial : (d : Design) (first : List Bool) (path : List (List Bool)) → IsPath d false path → valuation_of path 0 ≡ first → IsInitial d first
    → IsPath d true path
path-initial d first path is same begins = record {
  some = is.some;
  begins = subst (λ (v : List Bool). IsInitial d v) (sym same) begins;
  steps = is.steps;
}

longer-front : (path : List (List Bool)) (next : List Bool) (place : ℕ) → place < length path → valuation_of (path ++ next ∷ []) place ≡ valuation_of path place
longer-front path next place low = get_or_append_left path (next ∷ []) [] place low

longer-last : (path : List (List Bool)) (next : List Bool) → valuation_of (path ++ next ∷ []) (length path) ≡ next
longer-last path next = ap (valuation_of (path ++ next ∷ [])) (omega arith) ∙ get_or-append-add path (next ∷ []) 0 []

pub path-more : (d : Design) (path : List (List Bool)) (next : List Bool) → IsPath d false path → IsStep d (valuation_of path (length path - 1)) next → IsPath d false (path ++ next ∷ [])
path-more d path next is step = record {
  some = omega (arith, length-append path (next ∷ []));
  begins = subst (λ (v : List Bool). IsValuation d v) (sym (longer-front path next 0 is.some)) is.begins;
  steps = λ place low. elim (cases_lt (suc place) (length path)) [
    | inl k ↦ subst (λ (v : List Bool). IsStep d v (valuation_of (path ++ next ∷ []) (suc place))) (sym (longer-front path next place (omega arith)))
        (subst (λ (v : List Bool). IsStep d (valuation_of path place) v) (sym (longer-front path next (suc place) k)) (is.steps place k))
    | inr k ↦
        let end : suc place ≡ length path = omega (arith, low, length-append path (next ∷ [])) in
        let before : place ≡ length path - 1 = omega arith in
        subst (λ (v : List Bool). IsStep d v (valuation_of (path ++ next ∷ []) (suc place))) (sym (longer-front path next place (omega arith) ∙ ap (valuation_of path) before))
        (subst (λ (v : List Bool). IsStep d (valuation_of path (length path - 1)) v) (sym (ap (valuation_of (path ++ next ∷ [])) end ∙ longer-last path next)) step)
  ];
}

-- the same of what a program keeps
module _ (d : Design) (path : List (List Bool)) (place : ℕ) (earlier : List Bool) (is : IsPath d false path) (size : length path ≡ place)
    (read : slice_get path (place - 1) ≡ Some earlier) where
  earlier-is : valuation_of path (place - 1) ≡ earlier
  earlier-is = get_or_from_slice_get path (place - 1) earlier [] read

  pub earlier-valid : IsValuation d earlier
  earlier-valid = let some = is.some in subst (λ (v : List Bool). IsValuation d v) earlier-is (path-valid d path is (place - 1) (omega arith))

  pub path-next : (next : List Bool) → IsStep d earlier next → (longer : List (List Bool)) → longer ≡ path ++ next ∷ []
      → IsPath d false longer × (length longer ≡ place + 1)
  path-next next step longer same = (
    subst (λ (p : List (List Bool)). IsPath d false p) (sym same)
        (path-more d path next is (subst (λ (v : List Bool). IsStep d v next) (sym (ap (λ n. valuation_of path (n - 1)) size ∙ earlier-is)) step)),
    ap (λ (p : List (List Bool)). length p) same ∙ length-append path (next ∷ []) ∙ ap (λ n. n + 1) size,
  )

  pub path-inputs : (inputs : List (List Bool)) (next given : List Bool) (longer : List (List Bool)) → longer ≡ path ++ next ∷ []
      → ((k : ℕ) → k < place → values (valuation_of path k) d.inputs ≡ get_or inputs k []) → values next d.inputs ≡ given → slice_get inputs place ≡ Some given
      → (k : ℕ) → k < place + 1 → values (valuation_of longer k) d.inputs ≡ get_or inputs k []
  path-inputs inputs next given longer same has here taken k low = ap (λ (p : List (List Bool)). values (valuation_of p k) d.inputs) same ∙ elim (cases_lt k place) [
    | inl early ↦ ap (λ (v : List Bool). values v d.inputs) (longer-front path next k (omega arith)) ∙ has k early
    | inr late ↦
        let e : k ≡ place = omega arith in
        let f : k ≡ length path = omega arith in
        ap (λ (v : List Bool). values v d.inputs) (ap (valuation_of (path ++ next ∷ [])) f ∙ longer-last path next) ∙ here
        ∙ sym (ap (λ j. get_or inputs j []) e ∙ get_or_from_slice_get inputs place given [] taken)
  ]

  pub path-first : (first next : List Bool) (longer : List (List Bool)) → longer ≡ path ++ next ∷ []
      → valuation_of path 0 ≡ first → valuation_of longer 0 ≡ first
  path-first first next longer same begins =
      ap (λ (p : List (List Bool)). valuation_of p 0) same ∙ longer-front path next 0 is.some ∙ begins
