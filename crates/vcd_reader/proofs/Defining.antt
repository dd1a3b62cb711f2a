-- Steps of the definitions.
use Rattle.std.proofs.Common.{◌≡◌, ℕ, ◌+◌, ◌-◌, ◌<◌, ◌≤◌, Bool, true, false, cond, eqb, List, [], ◌∷◌, ◌++◌, map, length, get_or, take, Option, None, Some, refl, sym, ap, subst, ◌∙◌, arith}
use Rattle.std.proofs.lemmas.Bool.{eqb-true}
use Rattle.std.proofs.lemmas.List.{length-map, take-map, get_or_append_left, length_push}
use Rattle.std.proofs.lemmas.List.Elements.{All-push, All-weaker}
use Rattle.std.proofs.lemmas.List.Sums.{sum_by_push}
use Rattle.std.specs.List.{All}
use Rattle.psl_base.specs.Tokens.{PlacedToken, TokensLeft, ◌▸◌}
use Rattle.psl_tree.specs.Ranges.{index_count}
use Rattle.psl_tree.specs.declared.name.Name.{Name}
use Rattle.vcd_reader.specs.declared.shape.Shape.TheVariants.{Upscope}
use Rattle.vcd_reader.specs.declared.signal.Signal.{Signal}
use Rattle.vcd_reader.proofs.Places.{place_of-within}
use Rattle.vcd_reader.specs.Declarations.{Declared, without_scope, name_of, no_signal, bits_most}
use Rattle.vcd_reader.specs.Kept.{IsNamed, IsKept}
use Rattle.vcd_reader.specs.Labels.{place_of}
use Rattle.vcd_reader.specs.Ranges.{Reference, reference_with, range_at_end}
use Rattle.vcd_reader.specs.Rules.{has_none}
use Rattle.vcd_reader.specs.Running.{defining}
use Rattle.vcd_reader.specs.Sampled.{indices, AreAlike}
use Rattle.vcd_reader.specs.Shapes.{shape_of, is_end}
use Rattle.vcd_reader.specs.Standing.{Ready}

-- a list without its last element, seen through a map
pub all_but_last : {X : Type 0} (f : X → List ℕ) (xs ys : List X) (n : ℕ) → n ≡ length xs → ys ≡ take (n - 1) xs → take (length (map f xs) - 1) (map f xs) ≡ map f ys
all_but_last f xs ys n count same =
    let counted : length (map f xs) - 1 ≡ n - 1 = omega (arith, length-map xs f, count) in
    rw counted (take-map f (n - 1) xs ∙ ap (map f) (sym same))

-- a list with an element
pub some_there : (xs : List (List ℕ)) → 0 < length xs → has_none xs ≡ false
some_there [] some = absurd (omega arith)
some_there (x ∷ xs) some = refl

-- a scope is closed
pub scope_closed : (d new : Declared) (u t : PlacedToken) (left : TokensLeft) → shape_of u.text ≡ Upscope → has_none d.scopes ≡ false → is_end t.text ≡ true → without_scope d ≡ new →
    defining d Ready (u ▸ t ▸ left) ≡ defining new Ready left
scope_closed d new u t left shape some end same = rw (shape, some, end) (ap (λ (x : Declared). defining x Ready left) same)

by_count : (fits : Bool) (text : List ℕ) (at size left right : ℕ) → eqb (index_count left right) size ≡ fits → 0 < size →
    (let r = cond {A = Reference} fits (record { text = take at text; left = left; right = right }) (record { text = text; left = size - 1; right = 0 }) in index_count r.left r.right) ≡ size
by_count true text at size left right same some = eqb-true _ _ same
by_count false text at size left right same some = omega (arith, some)

by_range : (text : List ℕ) (size : ℕ) (range : Option (ℕ × (ℕ × ℕ))) → 0 < size → index_count (reference_with text size range).left (reference_with text size range).right ≡ size
by_range text size None some = omega (arith, some)
by_range text size (Some range) some = by_count (eqb (index_count range.1.0 range.1.1) size) text range.0 size range.1.0 range.1.1 refl some

-- a name has as many indices as its signal has bits
pub name_of-sized : (scopes : List (List ℕ)) (number size : ℕ) (text : List ℕ) → 0 < size → indices (name_of scopes number size text) ≡ size
name_of-sized scopes number size text some = by_range text size (range_at_end text) some

-- one name more of a signal
pub kept-name : (codes : List (List ℕ)) (signals : List Signal) (names : List Name) (bits : ℕ) (scopes : List (List ℕ)) (number size : ℕ) (text : List ℕ) →
    IsKept codes signals names bits → number < length signals → (get_or signals number no_signal).size ≡ size → (get_or signals number no_signal).unread ≡ false → IsKept codes signals (names ++ name_of scopes number size text ∷ []) bits
kept-name codes signals names bits scopes number size text kept within same read =
    let some : 0 < size = subst (λ n. 0 < n) same (kept.some number no_signal within read) in
    record {
      paired = kept.paired;
      counted = kept.counted;
      few = kept.few;
      some = kept.some;
      named = All-push (IsNamed signals) names (name_of scopes number size text) kept.named (record { within = within; sized = name_of-sized scopes number size text some ∙ sym same });
    }

-- names are those of one signal more, too
more_signals : (signals : List Signal) (signal : Signal) (name : Name) → IsNamed signals name → IsNamed (signals ++ signal ∷ []) name
more_signals signals signal name named = record {
  within = let low = named.within in omega (arith, low, length_push signals signal);
  sized = named.sized ∙ ap (λ (s : Signal). s.size) (sym (get_or_append_left signals (signal ∷ []) no_signal name.signal (let low = named.within in low)));
}

-- one signal more, of a code that was not there
pub kept-signal : (codes : List (List ℕ)) (signals : List Signal) (names : List Name) (bits more : ℕ) (code : List ℕ) (signal : Signal) → IsKept codes signals names bits → more ≡ bits + signal.size → more ≤ bits_most → (signal.unread ≡ false → 0 < signal.size) →
    IsKept (codes ++ code ∷ []) (signals ++ signal ∷ []) names more
kept-signal codes signals names bits more code signal kept sum within some = record {
  paired = let same = kept.paired in omega (arith, same, length_push codes code, length_push signals signal);
  counted = let counted = kept.counted in omega (arith, sum, counted, sum_by_push (λ (s : Signal). s.size) signals signal);
  few = within;
  some = All-push (λ (s : Signal). s.unread ≡ false → 0 < s.size) signals signal kept.some some;
  named = All-weaker (IsNamed signals) (IsNamed (signals ++ signal ∷ [])) (more_signals signals signal) names kept.named;
}

-- the signal of a code that is there
pub within_signals : (codes : List (List ℕ)) (signals : List Signal) (names : List Name) (bits : ℕ) (code : List ℕ) (number : ℕ) → IsKept codes signals names bits → Some number ≡ place_of codes code → number < length signals
within_signals codes signals names bits code number kept found =
    let low = place_of-within codes code number (sym found) in
    let same = kept.paired in
    omega (arith, low, same)

-- the names of one signal have as many indices as it has bits
pub alike-named : (signals : List Signal) (names : List Name) → All (IsNamed signals) names → AreAlike names
alike-named signals names named = λ i d in_i j e in_j same.
    (named i d in_i).sized ∙ ap (λ (n : ℕ). (get_or signals n no_signal).size) same ∙ sym (named j e in_j).sized
