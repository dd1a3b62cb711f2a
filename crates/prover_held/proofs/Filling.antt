-- The inputs and latches of a valuation that is filled.
use Rattle.std.proofs.Common.{subst, ◌≡◌, ℕ, ◌<◌, Bool, false, List, ◌++◌, length, map, take, drop, get_or, sym, ap, ◌∙◌}
use Rattle.std.proofs.lemmas.List.{drop_at, get_or-map, length-map, map-append, take_at}
use Rattle.netlist.specs.Design.{Design}
use Rattle.netlist.specs.Valuations.{bit, values, IsFilled, IsInitial, IsStep, IsValuation, MayBegin}
use Rattle.netlist.specs.declared.latch.Init.{Init}
use Rattle.netlist.specs.declared.latch.Init.TheVariants as inits
use Rattle.netlist.specs.declared.latch.Latch.{Latch}
use Rattle.prover_held.specs.Choices.{HasFirsts, IsFirst}

-- a first value is one that the latch may have
may-begin : (init : Init) (chosen value : Bool) → IsFirst init chosen value → MayBegin init value
may-begin inits.Zero chosen value is = is
may-begin inits.One chosen value is = is
may-begin inits.Free chosen value is = tt

module _ (d : Design) (front back valuation : List Bool) (is : IsFilled d (front ++ back) valuation) (fits : length front ≡ length d.inputs) where
  abbrev outputs : List ℕ
  outputs = map (λ latch. latch.output) d.latches

  parts : values valuation d.inputs ++ values valuation outputs ≡ front ++ back
  parts = sym (map-append (bit valuation) d.inputs outputs) ∙ is.has

  pub filled-inputs : values valuation d.inputs ≡ front
  filled-inputs =
      sym (take_at (values valuation d.inputs) (values valuation outputs) (length d.inputs) (length-map d.inputs (bit valuation)))
      ∙ ap (take (length d.inputs)) parts ∙ take_at front back (length d.inputs) fits

  latch-values : values valuation outputs ≡ back
  latch-values =
      sym (drop_at (values valuation d.inputs) (values valuation outputs) (length d.inputs) (length-map d.inputs (bit valuation)))
      ∙ ap (drop (length d.inputs)) parts ∙ drop_at front back (length d.inputs) fits

  latch-value : (place : ℕ) (other : Latch) → place < length d.latches → bit valuation (get_or d.latches place other).output ≡ get_or back place false
  latch-value place other low =
      ap (bit valuation) (sym (get_or-map (λ (latch : Latch). latch.output) d.latches place other 0 low))
      ∙ sym (get_or-map (bit valuation) outputs place 0 false (subst (λ n. place < n) (sym (length-map d.latches (λ (latch : Latch). latch.output))) low))
      ∙ ap (λ (list : List Bool). get_or list place false) latch-values

  pub filled-firsts : (chosen : List Bool) → ((place : ℕ) (other : Latch) → place < length d.latches
      → IsFirst (get_or d.latches place other).init (get_or chosen place false) (get_or back place false)) → HasFirsts d.latches valuation chosen
  filled-firsts chosen begin place other low =
      subst (λ (b : Bool). IsFirst (get_or d.latches place other).init (get_or chosen place false) b) (sym (latch-value place other low)) (begin place other low)

  pub filled-first : (chosen : List Bool) → HasFirsts d.latches valuation chosen → IsInitial d valuation
  filled-first chosen firsts = record {
    valuation = is.is;
    latches = λ place other low.
        may-begin (get_or d.latches place other).init (get_or chosen place false) (bit valuation (get_or d.latches place other).output) (firsts place other low);
  }

  pub filled-next : (earlier : List Bool) → IsValuation d earlier → back ≡ map (λ latch. bit earlier latch.input) d.latches → IsStep d earlier valuation
  filled-next earlier valid same = record {
    before = valid;
    after = is.is;
    latches = λ place other low. latch-value place other low ∙ ap (λ (list : List Bool). get_or list place false) same
        ∙ get_or-map (λ (latch : Latch). bit earlier latch.input) d.latches place other false low;
  }

-- the same of what a program keeps
pub firsts-from : (d : Design) (latches : List Latch) (front values back chosen valuation : List Bool) → latches ≡ d.latches → back ≡ values → length front ≡ length d.inputs
    → ((place : ℕ) (other : Latch) → place < length latches
    → IsFirst (get_or latches place other).init (get_or chosen place false) (get_or values place false))
    → IsFilled d (front ++ back) valuation → HasFirsts d.latches valuation chosen
firsts-from d latches front values back chosen valuation same copied fits begin is =
    filled-firsts d front back valuation is fits chosen (λ place other low.
    subst (λ (list : List Latch). IsFirst (get_or list place other).init (get_or chosen place false) (get_or back place false)) same
    (subst (λ (list : List Bool). IsFirst (get_or latches place other).init (get_or chosen place false) (get_or list place false)) (sym copied)
    (begin place other (subst (λ (list : List Latch). place < length list) (sym same) low))))

pub next-from : (d : Design) (latches : List Latch) (front values back earlier read valuation : List Bool) → latches ≡ d.latches → back ≡ values → read ≡ earlier
    → length front ≡ length d.inputs → IsValuation d earlier → values ≡ map (λ latch. bit read latch.input) latches
    → IsFilled d (front ++ back) valuation → IsStep d earlier valuation
next-from d latches front values back earlier read valuation same copied seen fits valid moved is =
    filled-next d front back valuation is fits earlier valid
    (copied ∙ moved ∙ ap (λ (v : List Bool). map (λ (latch : Latch). bit v latch.input) latches) seen ∙ ap (λ (list : List Latch). map (λ (latch : Latch). bit earlier latch.input) list) same)
