-- Each choice of inputs gives an initial valuation, and one that may follow another.
use Rattle.std.proofs.Common.{◌≡◌, ℕ, Bool, true, false, List, [], ◌∷◌, ◌++◌, length, map, take, drop, get_or, replicate, refl, sym, ap, ◌∙◌, arith, length-append}
use Rattle.std.specs.Prelude.{All}
use Rattle.std.proofs.lemmas.List.{length-map, length-replicate, map-append, take_at, drop_at, get_or-map}
use Rattle.netlist.specs.declared.latch.Init.{Init}
use Rattle.netlist.specs.declared.latch.Init.TheVariants as inits
use Rattle.netlist.specs.declared.latch.Latch.{Latch}
use Rattle.netlist.specs.Design.{Design, free_of}
use Rattle.netlist.specs.Sound.{IsOrder, IsSound}
use Rattle.netlist.specs.Valuations.{bit, values, IsFilled, MayBegin, IsValuation, IsInitial, IsStep}
use Rattle.netlist.proofs.Filled.{filled, filled-valuation, filled-free}

-- a valuation with these values of the free signals
pub some-valuation : (design : Design) (order : List ℕ) → IsSound design → IsOrder design.tables order → (given : List Bool) → length given ≡ length (free_of design)
    → (valuation : List Bool) × IsFilled design given valuation
some-valuation design order sound ordered given fits =
    let empty = replicate design.signals false in
    let size = length-replicate design.signals false in (
      filled design order given empty,
      record { is = filled-valuation design order sound ordered given empty size; has = filled-free design order sound ordered given empty size fits },
    )

-- a valuation with these values of the inputs, and of the latches those of a function
record Chosen (design : Design) (inputs : List Bool) (value : Latch → Bool) : Type 0 where
  valuation : List Bool
  is : IsValuation design valuation
  of_inputs : values valuation design.inputs ≡ inputs
  of_latches : All (λ latch. bit valuation latch.output ≡ value latch) design.latches

same-at : (latches : List Latch) (left right : Latch → Bool) → map left latches ≡ map right latches → All (λ latch. left latch ≡ right latch) latches
same-at latches left right same place other within =
    sym (get_or-map left latches place other false within) ∙ ap (λ list. get_or list place false) same ∙ get_or-map right latches place other false within

map-outputs : (valuation : List Bool) (latches : List Latch) → values valuation (map (λ latch. latch.output) latches) ≡ map (λ latch. bit valuation latch.output) latches
map-outputs valuation [] = refl
map-outputs valuation (latch ∷ latches) = ap (λ rest. bit valuation latch.output ∷ rest) (map-outputs valuation latches)

choose : (design : Design) (order : List ℕ) → IsSound design → IsOrder design.tables order → (inputs : List Bool) (value : Latch → Bool) → length inputs ≡ length design.inputs → Chosen design inputs value
choose design order sound ordered inputs value fits =
    let outputs = map (λ latch. latch.output) design.latches in
    let given = inputs ++ map value design.latches in
    let whole : length given ≡ length (free_of design) =
    omega (arith, length-append inputs (map value design.latches), length-append design.inputs outputs, length-map design.latches value, length-map design.latches (λ latch. latch.output)) in
    let found = some-valuation design order sound ordered given whole in
    let parts : values found.0 design.inputs ++ values found.0 outputs ≡ given = sym (map-append (bit found.0) design.inputs outputs) ∙ found.1.has in
    let sized : length (values found.0 design.inputs) ≡ length design.inputs = length-map design.inputs (bit found.0) in
    let front : values found.0 design.inputs ≡ inputs =
    sym (take_at (values found.0 design.inputs) (values found.0 outputs) (length design.inputs) sized) ∙ ap (take (length design.inputs)) parts
    ∙ take_at inputs (map value design.latches) (length design.inputs) fits in
    let back : values found.0 outputs ≡ map value design.latches =
    sym (drop_at (values found.0 design.inputs) (values found.0 outputs) (length design.inputs) sized) ∙ ap (drop (length design.inputs)) parts
    ∙ drop_at inputs (map value design.latches) (length design.inputs) fits in
    record {
      valuation = found.0;
      is = found.1.is;
      of_inputs = front;
      of_latches = same-at design.latches (λ latch. bit found.0 latch.output) value (sym (map-outputs found.0 design.latches) ∙ back);
    }

-- a first value that a latch may have
first_value : Init → Bool
first_value inits.Zero = false
first_value inits.One = true
first_value inits.Free = false

may-begin : (init : Init) (value : Bool) → value ≡ first_value init → MayBegin init value
unfolding first_value
may-begin inits.Zero value is = is
may-begin inits.One value is = is
may-begin inits.Free value is = tt

pub some-first : (design : Design) (order : List ℕ) → IsSound design → IsOrder design.tables order → (inputs : List Bool) → length inputs ≡ length design.inputs
    → (valuation : List Bool) × IsInitial design valuation × (values valuation design.inputs ≡ inputs)
some-first design order sound ordered inputs fits =
    let chosen = choose design order sound ordered inputs (λ latch. first_value latch.init) fits in (
      chosen.valuation,
      record {
        valuation = chosen.is;
        latches = λ place other within. may-begin (get_or design.latches place other).init (bit chosen.valuation (get_or design.latches place other).output) (chosen.of_latches place other within);
      },
      chosen.of_inputs,
    )

pub some-next : (design : Design) (order : List ℕ) → IsSound design → IsOrder design.tables order → (earlier inputs : List Bool) → IsValuation design earlier → length inputs ≡ length design.inputs
    → (later : List Bool) × IsStep design earlier later × (values later design.inputs ≡ inputs)
some-next design order sound ordered earlier inputs is fits =
    let chosen = choose design order sound ordered inputs (λ latch. bit earlier latch.input) fits in
    (chosen.valuation, record { before = is; after = chosen.is; latches = chosen.of_latches }, chosen.of_inputs)
