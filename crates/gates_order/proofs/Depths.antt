-- Depths along an order in which tables can be computed: each is one more than the greatest below it.
use Rattle.std.proofs.Common.{◌≡◌, ℕ, zero, suc, ◌+◌, ◌<◌, ◌≤◌, max, List, [], ◌∷◌, ◌++◌, length, map, get_or, take, Contains, Option, None, Some, refl, sym, ap, ◌∙◌, subst, arith}
use Rattle.std.proofs.lemmas.List.{take_more}
use Rattle.std.proofs.lemmas.List.Elements.{Contains-append_right}
use Rattle.std.proofs.lemmas.List.Recursion.{max_bounds, max_least, max_push}
use Rattle.netlist.specs.declared.table.Table.{Table}
use Rattle.netlist.specs.Sound.{IsOrder, table_at}
use Rattle.netlist_order.specs.TableGraph.{driver_in}
use Rattle.gates_order.specs.Depths.{above, depth_of, depth_within, most}
use Rattle.gates_order.proofs.Places.{driver-before, few-apart}

-- functions that agree on some numbers have the same greatest value there
pub most-same : (f g : ℕ → ℕ) (numbers : List ℕ) → ((n : ℕ) → Contains numbers n → f n ≡ g n) → most (map f numbers) ≡ most (map g numbers)
most-same f g [] same = refl
most-same f g (n ∷ numbers) same =
    let here : f n ≡ g n = same n (0, omega arith, refl) in
    let rest = most-same f g numbers (λ m within. same m (Contains-append_right (n ∷ []) numbers m within)) in
    ap (λ v. max v (most (map f numbers))) here ∙ ap (max (g n)) rest

pub most-zero : (f : ℕ → ℕ) (numbers : List ℕ) → ((n : ℕ) → Contains numbers n → f n ≡ 0) → most (map f numbers) ≡ 0
most-zero f [] none = refl
most-zero f (n ∷ numbers) none =
    let here : f n ≡ 0 = none n (0, omega arith, refl) in
    let rest = most-zero f numbers (λ m within. none m (Contains-append_right (n ∷ []) numbers m within)) in
    omega arith

pub most-at : (f : ℕ → ℕ) (numbers : List ℕ) (n : ℕ) → Contains numbers n → f n ≤ most (map f numbers)
most-at f numbers n within =
    let there = max_bounds (λ ns. most (map f ns)) f refl (λ x xs. refl) numbers within.0 n within.1 in
    subst (λ m. f m ≤ most (map f numbers)) within.2 there

most-more : (f : ℕ → ℕ) (numbers : List ℕ) (n : ℕ) → most (map f (numbers ++ n ∷ [])) ≡ max (most (map f numbers)) (f n)
most-more f numbers n = max_push (λ ns. most (map f ns)) f refl (λ x xs. refl) numbers n

pub most-taken : (f : ℕ → ℕ) (numbers : List ℕ) (i now new : ℕ) → i < length numbers → now ≡ most (map f (take i numbers)) → new ≡ max now (f (get_or numbers i 0))
    → new ≡ most (map f (take (i + 1) numbers))
most-taken f numbers i now new lt was is =
    is ∙ ap (λ n. max n (f (get_or numbers i 0))) was ∙ sym (most-more f (take i numbers) (get_or numbers i 0)) ∙ ap (λ ns. most (map f ns)) (sym (take_more numbers i 0 lt))

pub most-within : (f : ℕ → ℕ) (numbers : List ℕ) (bound : ℕ) → ((n : ℕ) → f n ≤ bound) → most (map f numbers) ≤ bound
most-within f numbers bound within = max_least (λ ns. most (map f ns)) f refl (λ x xs. refl) numbers 0 bound (λ i lt. within (get_or numbers i 0))

above-within : (count : ℕ → ℕ) (driver : Option ℕ) (bound : ℕ) → ((table : ℕ) → count table ≤ bound) → above count driver ≤ suc bound
above-within count None bound within = omega arith
above-within count (Some table) bound within = omega (arith, within table)

pub depth-within : (steps : ℕ) (tables : List Table) (number : ℕ) → depth_within steps tables number ≤ steps
depth-within zero tables number = omega arith
depth-within (suc steps) tables number =
    most-within (λ signal. above (depth_within steps tables) (driver_in tables signal)) (table_at tables number).inputs (suc steps)
    (λ signal. above-within (depth_within steps tables) (driver_in tables signal) steps (depth-within steps tables))

-- the depths of drivers, as far as they agree
above-same : (f g : ℕ → ℕ) (driver : Option ℕ) → ((table : ℕ) → driver ≡ Some table → f table ≡ g table) → above f driver ≡ above g driver
above-same f g None same = refl
above-same f g (Some table) same = ap suc (same table refl)

above-none : (f : ℕ → ℕ) (driver : Option ℕ) → ((table : ℕ) → driver ≡ Some table → ⊥) → above f driver ≡ 0
above-none f None none = refl
above-none f (Some table) none = absurd (none table refl)

module _ (tables : List Table) (order : List ℕ) (ordered : IsOrder tables order) where
  inputs_at : ℕ → List ℕ
  inputs_at place = (table_at tables (get_or order place 0)).inputs

  -- the table at a place is no deeper than so many steps tell
  settled : (fuel place : ℕ) → place < fuel → place < length order → (j k : ℕ) → place ≤ j → place ≤ k
      → depth_within j tables (get_or order place 0) ≡ depth_within k tables (get_or order place 0)
  settled zero place below lt j k fits_j fits_k = absurd (omega arith)
  settled (suc fuel) place below lt zero zero fits_j fits_k = refl
  settled (suc fuel) place below lt zero (suc k) fits_j fits_k = sym (first k (omega arith))
    where
      first : (k : ℕ) → place ≡ 0 → depth_within (suc k) tables (get_or order place 0) ≡ 0
      first k is =
          most-zero (λ signal. above (depth_within k tables) (driver_in tables signal)) (table_at tables (get_or order place 0)).inputs
          (λ signal reads. above-none (depth_within k tables) (driver_in tables signal)
          (λ table drives. (let at = driver-before tables order ordered place signal table lt reads drives in omega (arith, at.before))))
  settled (suc fuel) place below lt (suc j) zero fits_j fits_k =
      most-zero (λ signal. above (depth_within j tables) (driver_in tables signal)) (table_at tables (get_or order place 0)).inputs
      (λ signal reads. above-none (depth_within j tables) (driver_in tables signal)
      (λ table drives. (let at = driver-before tables order ordered place signal table lt reads drives in omega (arith, at.before))))
  settled (suc fuel) place below lt (suc j) (suc k) fits_j fits_k =
      most-same (λ signal. above (depth_within j tables) (driver_in tables signal)) (λ signal. above (depth_within k tables) (driver_in tables signal))
      (table_at tables (get_or order place 0)).inputs
      (λ signal reads. above-same (depth_within j tables) (depth_within k tables) (driver_in tables signal)
      (λ table drives.
      (let at = driver-before tables order ordered place signal table lt reads drives in
      subst (λ t. depth_within j tables t ≡ depth_within k tables t) at.is
      (settled fuel at.earlier (omega (arith, at.before)) (omega (arith, at.before)) j k (omega (arith, at.before)) (omega (arith, at.before))))))

  pub few-placed : length order ≤ length tables
  few-placed = few-apart order (length tables) ordered.once ordered.within

  -- a table is one deeper than the deepest that it reads
  pub depth-is : (place : ℕ) → place < length order → depth_of tables (get_or order place 0)
      ≡ most (map (λ signal. above (depth_of tables) (driver_in tables signal)) (table_at tables (get_or order place 0)).inputs)
  depth-is place lt = settled (suc place) place (omega arith) lt (length tables) (suc (length tables)) (omega (arith, few-placed)) (omega (arith, few-placed))

  pub deeper : (place signal table : ℕ) → place < length order → Contains (table_at tables (get_or order place 0)).inputs signal → driver_in tables signal ≡ Some table
      → depth_of tables table < depth_of tables (get_or order place 0)
  deeper place signal table lt reads drives =
      let whole = depth-is place lt in
      let there = most-at (λ s. above (depth_of tables) (driver_in tables s)) (table_at tables (get_or order place 0)).inputs signal reads in
      let is : above (depth_of tables) (driver_in tables signal) ≡ suc (depth_of tables table) = ap (above (depth_of tables)) drives in
      omega arith
