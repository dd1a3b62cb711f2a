-- The first names of signals.
use Rattle.std.proofs.Common.{◌≡◌, refl, sym, ◌∙◌, ap, ℕ, ◌+◌, ◌<◌, Bool, true, false, cond, List, length, drop, None, Some, arith}
use Rattle.std.specs.Prelude.{◌==◌, ◌≢◌, Any, get_or, replicate, set, slice_get, slice_index, slice_index_or}
use Rattle.std.proofs.lemmas.List.{drop_all, drop_more, get_or-replicate, get_or-set_other, get_or-set_same}
use Rattle.std.proofs.lemmas.Option.{slice_get-get_or, slice_get_past}
use Rattle.psl_tree.proofs.FirstNames.{is-named}
use Rattle.psl_tree.specs.Names.{first_name}
use Rattle.psl_tree.specs.declared.atom.Edge.TheVariants.{Value}
use Rattle.psl_tree.specs.declared.name.Name.{Name}

-- a name more, in front of the others
pub at-name : (names : List Name) (place signal : ℕ) (name : Name) (first : List ℕ) → place < length names → signal < length first
    → name ≡ slice_index_or names place name → name.signal < length first
    → first_name (drop (place + 1) names) signal ≡ slice_get names (slice_index first signal)
    → first_name (drop place names) signal ≡ slice_get names (slice_index (set first name.signal place) signal)
at-name names place signal name first lt within is inside before =
    ap (λ (ns : List Name). first_name ns signal) (drop_more names place name lt)
    ∙ ap (λ (n : Name). cond (n.signal == signal) (Some n) (first_name (drop (place + 1) names) signal)) (sym is)
    ∙ by (name.signal == signal) refl
  where
    by : (b : Bool) → (name.signal == signal) ≡ b
        → cond b (Some name) (first_name (drop (place + 1) names) signal) ≡ slice_get names (slice_index (set first name.signal place) signal)
    by true e =
        let same : name.signal ≡ signal = grind (arith, e) in
        ap Some is ∙ sym (slice_get-get_or names place name lt)
        ∙ ap (slice_get names) (sym (get_or-set_same first name.signal place 0 inside) ∙ ap (λ s. get_or (set first name.signal place) s 0) same)
    by false e =
        let other : signal ≢ name.signal = (λ same. grind (arith, e, same)) in
        before ∙ ap (slice_get names) (sym (get_or-set_other first name.signal signal place 0 other))

-- a signal that some name has has a first one
pub has-first : (names : List Name) (signal : ℕ) → Any (λ name. name.signal ≡ signal) names → first_name names signal ≡ None → ⊥
has-first names signal named =
    is-named names (record { signal = signal; bit = 0; edge = Value }) (record { named = named; within = λ k d lt same. omega arith })

-- where no name was looked at, no signal has one
pub none-yet : (names : List Name) (signals signal : ℕ) (first : List ℕ) → first ≡ replicate signals (length names) → signal < signals
    → first_name (drop (length names) names) signal ≡ slice_get names (slice_index first signal)
none-yet names signals signal first is lt =
    ap (λ ns. first_name ns signal) (drop_all (length names) names (omega arith))
    ∙ sym (slice_get_past names (length names) (omega arith))
    ∙ ap (slice_get names) (sym (get_or-replicate signals signal (length names) 0 lt) ∙ ap (λ f. slice_index f signal) (sym is))
