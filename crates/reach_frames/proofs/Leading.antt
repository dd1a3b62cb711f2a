-- Paths that grow.
use Rattle.std.proofs.Common.{◌≡◌, ℕ, suc, ◌+◌, ◌-◌, ◌≤◌, ℤ, Bool, true, List, [], ◌∷◌, ◌++◌, length, get_or, sym, ap, ◌∙◌, subst, inl, inr, arith}
use Rattle.std.proofs.lemmas.Bool.{cases_lt}
use Rattle.std.proofs.lemmas.List.{get_or_append_left, get_or_push, length_push}
use Rattle.reach_frames.specs.Bits.{is_in_cube}
use Rattle.reach_frames.specs.Paths.{last_of, IsLed}
use Rattle.reach_frames.specs.Searches.{IsLedInto}
use Rattle.reach_frames.specs.Systems.{System}

pub path_start : (system : System) (state : List Bool) → system.begins state → IsLed system (state ∷ [])
path_start system state begins = record {
  some = omega arith;
  begun = begins;
  followed = λ place end. absurd (omega (arith, end));
}

pub last_more : (path : List (List Bool)) (state : List Bool) → last_of (path ++ state ∷ []) ≡ state
last_more path state = get_or_push path state [] (length (path ++ state ∷ []) - 1) (omega (arith, length_push path state))

pub path_more : (system : System) (path : List (List Bool)) (state : List Bool) → IsLed system path → system.follows (last_of path) state → IsLed system (path ++ state ∷ [])
path_more system path state led follows = record {
  some = omega (arith, length_push path state);
  begun = subst system.begins (sym (get_or_append_left path (state ∷ []) [] 0 led.some)) led.begun;
  followed = λ place end.
      elim (cases_lt (suc place) (length path)) [
        | inl inside ↦
            let old = led.followed place inside in
            let first = get_or_append_left path (state ∷ []) [] place (omega (arith, inside)) in
            let second = get_or_append_left path (state ∷ []) [] (suc place) inside in
            let half : system.follows (get_or (path ++ state ∷ []) place []) (get_or path (suc place) []) = subst (λ s. system.follows s (get_or path (suc place) [])) (sym first) old in
            subst (system.follows (get_or (path ++ state ∷ []) place [])) (sym second) half
        | inr outside ↦
            let at : length path ≡ suc place = omega (arith, outside, end, length_push path state) in
            let before : place ≡ length path - 1 = omega (arith, at) in
            let first : get_or (path ++ state ∷ []) place [] ≡ last_of path =
            get_or_append_left path (state ∷ []) [] place (omega (arith, at)) ∙ ap (λ k. get_or path k []) before in
            let second = get_or_push path state [] (suc place) at in
            let half : system.follows (get_or (path ++ state ∷ []) place []) state = subst (λ s. system.follows s state) (sym first) follows in
            subst (system.follows (get_or (path ++ state ∷ []) place [])) (sym second) half
      ];
}

-- a path led on into a cube
pub led_more : (system : System) (cube : List ℤ) (path : List (List Bool)) (state : List Bool) (most : ℕ) → IsLed system path → system.follows (last_of path) state → is_in_cube cube state ≡ true
    → length path + 1 ≤ most → IsLedInto system cube most (path ++ state ∷ [])
led_more system cube path state most led follows inside few = record {
  led = path_more system path state led follows;
  inside = ap (is_in_cube cube) (last_more path state) ∙ inside;
  few = omega (arith, few, length_push path state);
}

-- the last state of a path has its bits
pub last_size : (system : System) (path : List (List Bool)) → IsLed system path → length (last_of path) ≡ system.width
last_size system path led =
    elim (cases_lt 1 (length path)) [
      | inl more ↦
          let place = length path - 2 in
          let at : suc place ≡ length path - 1 = omega (arith, more) in
          let follows = led.followed place (omega (arith, more)) in
          let last : get_or path (suc place) [] ≡ last_of path = ap (λ k. get_or path k []) at in
          ap length (sym last) ∙ (system.sizes (get_or path place []) (get_or path (suc place) []) follows).1
      | inr one ↦
          let at : 0 ≡ length path - 1 = omega (arith, one) in
          let last : get_or path 0 [] ≡ last_of path = ap (λ k. get_or path k []) at in
          ap length (sym last) ∙ system.size (get_or path 0 []) led.begun
    ]
