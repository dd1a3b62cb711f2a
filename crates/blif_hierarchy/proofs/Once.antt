-- Each signal of a hierarchy is driven once, by number.
use Rattle.std.proofs.Common.{◌≡◌, ℕ, zero, suc, ◌<◌, ◌≤◌, inl, inr, Bool, eqb, List, [], ◌∷◌, ◌++◌, length, map, get_or, refl, sym, ap, ◌∙◌, subst, ⊎_elim, arith}
use Rattle.std.proofs.lemmas.Bool.{cases_Bool, cases_lt, cases_eq, eqb-true, eq-eqb}
use Rattle.blif_flattening.specs.declared.model.Item.{Item}
use Rattle.blif_flattening.specs.declared.model.Item.TheVariants.{Own, Place}
use Rattle.blif_flattening.specs.declared.model.Model.{Model}
use Rattle.blif_flattening.specs.declared.model.Signal.{Signal}
use Rattle.blif_flattening.specs.declared.model.TheConstants.{DEEPEST}
use Rattle.blif_flattening.specs.Hierarchy.{items_of, owner, flat_lines, mentioned_by, mentioned}
use Rattle.blif_flattening.specs.Instances.{names_of, IsNamed}
use Rattle.blif_flattening.specs.Cells.{no_signal}
use Rattle.blif_flattening.specs.Members.{Among, Apart}
use Rattle.blif_flattening.specs.Numbers.{same_signal, place_of, signals}
use Rattle.blif_flattening.specs.Trees.{IsWhole}
use Rattle.blif_flattening.proofs.Members.{Among-map, Among-flat_map, Among-at, from_append, from_map, from_flat_map}
use Rattle.blif_flattening.proofs.Numbering.{onto-adds, Apart-onto, same_or_not, place-within, get_or-place_of, place_of-get_or}
use Rattle.blif_flattening.proofs.Unfolding.{owner-among}
use Rattle.blif_hierarchy.specs.Drivers.{count_where, times, inputs_in, driven_in, drivers_of, IsDriven, driven_numbers}
use Rattle.blif_hierarchy.specs.Laws.{AreMentioned, IsDrivenOnce, DrivesSignals}
use Rattle.blif_hierarchy.proofs.Counting.{count_where-append, count_where-map, count_where-same, count_where-none, count_where-alike, times_of, times_of-once, times-once, times-none}
use Rattle.blif_hierarchy.proofs.Driving.{by-levels}
use Rattle.blif_hierarchy.proofs.Few.{signal-listed}
use Rattle.blif_hierarchy.proofs.Owning.{own_signals, listed_below, listed}
use Rattle.blif_hierarchy.proofs.Parting.{listed-apart}

-- all names of a model
all_names : ℕ → List ℕ
all_names zero = []
all_names (suc name) = name ∷ all_names name

all-within : (count name : ℕ) → Among name (all_names count) → name < count
unfolding all_names
all-within zero name none = absurd none
all-within (suc last) name (inl here) = omega (arith, here)
all-within (suc last) name (inr there) = omega (arith, all-within last name there)

all-there : (count name : ℕ) → name < count → Among name (all_names count)
unfolding all_names
all-there zero name lt = absurd (omega arith)
all-there (suc last) name lt =
    ⊎_elim (λ same. inl (sym same)) (λ differs. inr (all-there last name (grind (arith, differs)))) (cases_eq name last)

all-apart : (count : ℕ) → Apart (all_names count)
unfolding all_names
all-apart zero = tt
all-apart (suc last) = (λ there. absurd (let less = all-within last last there in omega (arith, less)), all-apart last)

all-owned : {Line : Type 0} (models : List (Model Line)) (signal : Signal) (count : ℕ)
    → count_where (λ name. same_signal signal (owner models [] name)) (all_names count) ≡ times_of signal (own_signals [] [] count)
unfolding all_names
all-owned models signal zero = refl
all-owned models signal (suc last) = omega (arith, all-owned models signal last)

-- how often a number stands among those of signals
by-number : (all : List Signal) (k : ℕ) (xs : List Signal) → Apart all → k < length all → ((x : Signal) → Among x xs → Among x all)
    → times k (map (place_of all) xs) ≡ times_of (get_or all k no_signal) xs
by-number all k xs apart lt within =
    count_where-map (λ other. eqb other k) (place_of all) xs ∙ count_where-same (λ x. eqb (place_of all x) k) (same_signal (get_or all k no_signal)) xs each
  where
    each : (x : Signal) → Among x xs → eqb (place_of all x) k ≡ same_signal (get_or all k no_signal) x
    each x there =
        ⊎_elim
        (λ same. eq-eqb (place_of all x) k (ap (place_of all) (sym same.1) ∙ place_of-get_or all k no_signal apart lt) ∙ sym same.0)
        (λ differs. elim (cases_Bool (eqb (place_of all x) k)) [
          | inl is ↦
              absurd (differs.1 (ap (λ n. get_or all n no_signal) (sym (eqb-true (place_of all x) k is)) ∙ get_or-place_of all x no_signal (within x there)))
          | inr not ↦ not ∙ sym differs.0
        ])
        (same_or_not (get_or all k no_signal) x)

-- the inputs of a model are listed by its lines
input-line : {Line : Type 0} (inputs : Line → List ℕ) (items : List (Item Line)) (name : ℕ) → Among name (inputs_in inputs items)
    → (line : Line) × Among (Own line) items × Among name (inputs line)
input-line inputs [] name none = absurd none
input-line inputs (Own line ∷ items) name there =
    ⊎_elim (λ here. (line, inl refl, here)) (λ later. let rest = input-line inputs items name later in (rest.0, inr rest.1, rest.2))
    (from_append name (inputs line) (inputs_in inputs items) there)
input-line inputs (Place placement ∷ items) name there = let rest = input-line inputs items name there in (rest.0, inr rest.1, rest.2)

module _ (Line : Type 0) (mentions : Line → List ℕ) (models : List (Model Line)) (whole : IsWhole mentions models) (inputs drives : Line → List ℕ)
    (are : AreMentioned mentions inputs drives) where
  all : List Signal
  all = signals mentions models

  driven : List Signal
  driven = map (owner models []) (inputs_in inputs (items_of models 0)) ++ mentioned drives models (flat_lines models)

  -- what is driven are signals
  driven-within : (signal : Signal) → Among signal driven → Among signal all
  unfolding all driven
  driven-within signal there =
      ⊎_elim
      (λ first. let by = from_map (owner models []) signal (inputs_in inputs (items_of models 0)) first in
      let line = input-line inputs (items_of models 0) by.0 by.1 in
      subst (λ s. Among s (signals mentions models)) by.2
      (owner-among Line mentions models whole [] by.0 tt (inl (line.0, line.1, are.listed line.0 by.0 line.2))))
      (λ later. let by = from_flat_map (mentioned_by drives models) signal (flat_lines models) later in
      let name = from_map (owner models by.0.0) signal (drives by.0.1) by.2 in
      onto-adds [] (mentioned mentions models (flat_lines models)) signal
      (Among-flat_map (mentioned_by mentions models) by.0 signal (flat_lines models) by.1
      (subst (λ s. Among s (mentioned_by mentions models by.0)) name.2 (Among-map (owner models by.0.0) name.0 (mentions by.0.1) (are.driven by.0.1 name.0 name.1)))))
      (from_append signal (map (owner models []) (inputs_in inputs (items_of models 0))) (mentioned drives models (flat_lines models)) there)

  pub drives-only : (signal : ℕ) → length (signals mentions models) ≤ signal → times signal (driven_numbers mentions inputs drives models) ≡ 0
  unfolding all driven
  drives-only signal past =
      count_where-map (λ other. eqb other signal) (place_of all) driven
      ∙ count_where-none (λ x. eqb (place_of all x) signal) driven
      (λ x there. elim (cases_Bool (eqb (place_of all x) signal)) [
        | inl is ↦
            let at : place_of all x ≡ signal = eqb-true (place_of all x) signal is in
            absurd (let less = place-within all x (driven-within x there) in omega (arith, at, less))
        | inr not ↦ not
      ])

  module _ (named : IsNamed mentions models) (is : IsDriven inputs drives models) where
    -- the names of the top are its inputs, and what it drives
    top-owned : (signal : Signal) → count_where (λ name. same_signal signal (owner models [] name)) (drivers_of inputs drives models 0) ≡ times_of signal (own_signals [] [] (names_of models 0))
    top-owned signal =
        let test : ℕ → Bool = λ name. same_signal signal (owner models [] name) in
        count_where-alike test (drivers_of inputs drives models 0) (all_names (names_of models 0)) alike ∙ all-owned models signal (names_of models 0)
      where
        alike : (name : ℕ) → times name (drivers_of inputs drives models 0) ≡ times name (all_names (names_of models 0))
        alike name =
            ⊎_elim
            (λ lt. is.once 0 name lt ∙ sym (times-once name (all_names (names_of models 0)) (all-apart (names_of models 0)) (all-there (names_of models 0) name lt)))
            (λ past. is.past 0 name past ∙ sym (times-none name (all_names (names_of models 0))
            (λ there. absurd (let less = all-within (names_of models 0) name there in omega (arith, less)))))
            (cases_lt name (names_of models 0))

    driven-times : (signal : Signal) → Among signal all → times_of signal driven ≡ 1
    unfolding all driven flat_lines listed
    driven-times signal there =
        let test : ℕ → Bool = λ name. same_signal signal (owner models [] name) in
        let ins = inputs_in inputs (items_of models 0) in
        let outs = driven_in inputs drives models (items_of models 0) in
        let flat = by-levels Line inputs drives models signal is whole.shallow DEEPEST [] tt refl in
        let joined = count_where-append (same_signal signal) (map (owner models []) ins) (mentioned drives models (flat_lines models)) in
        let first = count_where-map (same_signal signal) (owner models []) ins in
        let second = count_where-map (same_signal signal) (owner models []) outs in
        let both = count_where-append test ins outs in
        let top = top-owned signal in
        let split = count_where-append (same_signal signal) (own_signals [] [] (names_of models 0)) (listed_below models DEEPEST 0 []) in
        let one = times_of-once signal (listed models) (listed-apart models) (signal-listed Line mentions models named whole signal there) in
        omega (arith, flat, joined, first, second, both, top, split, one)

    pub driven-once : (signal : ℕ) → signal < length (signals mentions models) → times signal (driven_numbers mentions inputs drives models) ≡ 1
    unfolding all driven
    driven-once signal lt =
        by-number all signal driven (Apart-onto [] (mentioned mentions models (flat_lines models)) tt) lt driven-within
        ∙ driven-times (get_or all signal no_signal) (Among-at all signal no_signal lt)

pub is_driven_once : (Line : Type 0) (mentions : Line → List ℕ) (models : List (Model Line)) → IsDrivenOnce mentions models
is_driven_once Line mentions models whole named inputs drives are is = driven-once Line mentions models whole inputs drives are named is

pub drives_signals : (Line : Type 0) (mentions : Line → List ℕ) (models : List (Model Line)) → DrivesSignals mentions models
drives_signals Line mentions models whole inputs drives are = drives-only Line mentions models whole inputs drives are
