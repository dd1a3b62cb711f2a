-- Valuations that are filled from values which agree on a cone agree on it.
use Rattle.std.proofs.Common.{◌≡◌, ℕ, zero, suc, ◌<◌, Bool, false, List, [], ◌∷◌, map, length, replicate, set, refl, sym, ap, ◌∙◌, subst, arith, length-set}
use Rattle.std.specs.Bool.{IsTrue}
use Rattle.std.specs.List.{All}
use Rattle.std.proofs.lemmas.List.{length-map, length-replicate}
use Rattle.std.proofs.lemmas.List.Elements.{All-head, All-tail}
use Rattle.gates_frames.specs.Frames.{Cone, IsClosed}
use Rattle.gates_order.specs.Depths.{order_of}
use Rattle.netlist.specs.Design.{Design, free_of}
use Rattle.netlist.specs.Filling.{with_outputs, with_values}
use Rattle.netlist.specs.Sound.{IsOrder, IsSound, no_table, table_at}
use Rattle.netlist.specs.Valuations.{bit, output_by, output_in, values, IsFilled, IsValuation}
use Rattle.netlist.proofs.Filled.{filled-free, filled-valuation}
use Rattle.netlist.proofs.Uniqueness.{one-valuation}
use Rattle.bounded.specs.Found.{filled}

same-set : (l r : List Bool) (s k : ℕ) (x y : Bool) → length l ≡ length r → (k ≡ s → x ≡ y) → bit l k ≡ bit r k → bit (set l s x) k ≡ bit (set r s y) k
same-set [] [] s k x y size here old = old
same-set [] (b ∷ r) s k x y size here old = absurd (omega arith)
same-set (a ∷ l) [] s k x y size here old = absurd (omega arith)
same-set (a ∷ l) (b ∷ r) zero zero x y size here old = here refl
same-set (a ∷ l) (b ∷ r) zero (suc k) x y size here old = old
same-set (a ∷ l) (b ∷ r) (suc s) zero x y size here old = old
same-set (a ∷ l) (b ∷ r) (suc s) (suc k) x y size here old = same-set l r s k x y (omega arith) (λ e. here (ap suc e)) old

module _ (d : Design) (cone : Cone) where
  abbrev pub Agree : List Bool → List Bool → Type 0
  Agree l r = (s : ℕ) → IsTrue (cone s) → bit l s ≡ bit r s

  set-agree : (l r : List Bool) (s : ℕ) (x y : Bool) → length l ≡ length r → (IsTrue (cone s) → x ≡ y) → Agree l r → Agree (set l s x) (set r s y)
  set-agree l r s x y size here agree k inside = same-set l r s k x y size (λ e. here (subst (λ j. IsTrue (cone j)) e inside)) (agree k inside)

  values-agree : (f g : ℕ → Bool) → ((s : ℕ) → IsTrue (cone s) → f s ≡ g s) → (signals : List ℕ) (l r : List Bool) → length l ≡ length r → Agree l r
      → Agree (with_values signals (map f signals) l) (with_values signals (map g signals) r)
  values-agree f g same [] l r size agree = agree
  values-agree f g same (s ∷ signals) l r size agree =
      values-agree f g same signals (set l s (f s)) (set r s (g s)) (length-set l s (f s) ∙ size ∙ sym (length-set r s (g s)))
      (set-agree l r s (f s) (g s) size (same s) agree)

  values-size : (signals : List ℕ) (xs l : List Bool) → length (with_values signals xs l) ≡ length l
  values-size [] xs l = refl
  values-size (s ∷ signals) [] l = refl
  values-size (s ∷ signals) (x ∷ xs) l = values-size signals xs (set l s x) ∙ length-set l s x

  read-agree : (signals : List ℕ) (l r : List Bool) → All (λ s. IsTrue (cone s)) signals → Agree l r → values l signals ≡ values r signals
  read-agree [] l r inside agree = refl
  read-agree (s ∷ signals) l r inside agree =
      rw (agree s (All-head (λ k. IsTrue (cone k)) s signals inside), read-agree signals l r (All-tail (λ k. IsTrue (cone k)) s signals inside) agree) refl

  module _ (closed : IsClosed d cone) where
    outputs-agree : (order : List ℕ) (l r : List Bool) → All (λ t. t < length d.tables) order → length l ≡ length r → Agree l r
        → Agree (with_outputs d.tables order l) (with_outputs d.tables order r)
    outputs-agree [] l r few size agree = agree
    outputs-agree (t ∷ order) l r few size agree =
        let table = table_at d.tables t in
        let below : t < length d.tables = All-head (λ k. k < length d.tables) t order few in
        let x = output_in l table in
        let y = output_in r table in
        outputs-agree order (set l table.output x) (set r table.output y) (All-tail (λ k. k < length d.tables) t order few)
        (length-set l table.output x ∙ size ∙ sym (length-set r table.output y))
        (set-agree l r table.output x y size
        (λ inside. ap (output_by table) (read-agree table.inputs l r (closed.tables t no_table below inside) agree)) agree)

    module _ (sound : IsSound d) (ordered : IsOrder d.tables (order_of d.tables)) where
      abbrev empty : List Bool
      empty = replicate d.signals false

      room : length empty ≡ d.signals
      room = length-replicate d.signals false

      pub filled-is : (free : List Bool) → IsValuation d (filled d free)
      filled-is free = filled-valuation d (order_of d.tables) sound ordered free empty room

      -- a valuation is filled from its own values
      own : (valuation : List Bool) → IsValuation d valuation → filled d (values valuation (free_of d)) ≡ valuation
      own valuation is =
          let free = values valuation (free_of d) in
          one-valuation d (order_of d.tables) sound ordered free (filled d free) valuation
          (record { is = filled-is free; has = filled-free d (order_of d.tables) sound ordered free empty room (length-map (free_of d) (bit valuation)) })
          (record { is = is; has = refl })

      pub filled-agree : (f : ℕ → Bool) (valuation : List Bool) → IsValuation d valuation → ((s : ℕ) → IsTrue (cone s) → f s ≡ bit valuation s)
          → Agree (filled d (map f (free_of d))) valuation
      filled-agree f valuation is same s inside =
          outputs-agree (order_of d.tables) (with_values (free_of d) (map f (free_of d)) empty) (with_values (free_of d) (values valuation (free_of d)) empty) ordered.within
          (values-size (free_of d) (map f (free_of d)) empty ∙ sym (values-size (free_of d) (values valuation (free_of d)) empty))
          (values-agree f (bit valuation) same (free_of d) empty empty refl (λ k _. refl)) s inside
          ∙ ap (λ x. bit x s) (own valuation is)

-- a valuation that is filled from values is the one of the definition
pub filled-one : (d : Design) → IsSound d → IsOrder d.tables (order_of d.tables) → (free valuation : List Bool) → IsFilled d free valuation → valuation ≡ filled d free
filled-one d sound ordered free valuation is =
    let empty = replicate d.signals false in
    let room : length empty ≡ d.signals = length-replicate d.signals false in
    let size : length free ≡ length (free_of d) = ap (λ (l : List Bool). length l) (sym is.has) ∙ length-map (free_of d) (bit valuation) in
    one-valuation d (order_of d.tables) sound ordered free valuation (filled d free) is
    (record { is = filled-valuation d (order_of d.tables) sound ordered free empty room; has = filled-free d (order_of d.tables) sound ordered free empty room size })
