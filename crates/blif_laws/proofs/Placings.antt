-- Where no placement is at fault, each is of a model that is there, and its words connect what that model offers.
use Rattle.std.proofs.Common.{◌≡◌, ℕ, zero, suc, ◌+◌, Bool, true, false, cond, List, [], ◌∷◌, slice_get, is_none, option_and_then, Option, None, Some, refl, sym, ap, ◌∙◌, subst, inl, inr, ⊎_elim, arith}
use Rattle.std.specs.List.{position_from}
use Rattle.psl_base.specs.Tokens.{PlacedToken}
use Rattle.blif_flattening.specs.Members.{Among}
use Rattle.blif_model.specs.Files.{Part, Placing, is_named, model_named}
use Rattle.blif_model.specs.Models.{Model}
use Rattle.blif_linking.specs.Links.{connections_in, title_in}
use Rattle.blif_linking.specs.Names.{Parts, bad_from, bad_in, bad_word, first_bad, first_some, first_unknown, is_missing, number_placed, placed, unknown_by, unknown_word}
use Rattle.blif_model.proofs.Holding.{or_none}

-- of no thing is anything told
pub none-told : {A B : Type 0} (tell : A → Option B) (xs : List A) (x : A) → first_some tell xs ≡ None → Among x xs → tell x ≡ None
none-told tell [] x none there = absurd there
none-told tell (y ∷ xs) x none there =
    let both = or_none (tell y) (first_some tell xs) none in
    ⊎_elim (λ here. subst (λ z. tell z ≡ None) here both.0) (λ later. none-told tell xs x both.1 later) there

-- what has a place is there
pub Among-get : {X : Type 0} (xs : List X) (i : ℕ) (x : X) → slice_get xs i ≡ Some x → Among x xs
Among-get [] i x is = cc
Among-get (y ∷ xs) zero x is = inl (let same : y ≡ x = cc in same)
Among-get (y ∷ xs) (suc i) x is = inr (Among-get xs i x is)

record IsAt {X : Type 0} (xs : List X) (start n : ℕ) : Type 0 where
  place : ℕ
  is : n ≡ start + place
  thing : X
  there : slice_get xs place ≡ Some thing

at-position : {X : Type 0} (test : X → Bool) (start n : ℕ) (xs : List X) → position_from test start xs ≡ Some n → IsAt xs start n
at-position test start n [] is = cc
at-position test start n (x ∷ xs) is = by_first (test x) is (at-position test (start + 1) n xs)
  where
    by_first : (first : Bool) → cond first (Some start) (position_from test (start + 1) xs) ≡ Some n
        → (position_from test (start + 1) xs ≡ Some n → IsAt xs (start + 1) n) → IsAt (x ∷ xs) start n
    by_first true is later = let same : start ≡ n = cc in record { place = 0; is = omega (arith, same); thing = x; there = refl }
    by_first false is later = let rest = later is in record { place = suc rest.place; is = omega (arith, rest.is); thing = rest.thing; there = rest.there }

-- the model that is placed, and that nothing is wrong with its connections
pub record IsPlaced (parts : Parts) (placing : Placing) : Type 0 where
  pub number : ℕ
  pub model : Part Model
  pub numbered : number_placed parts placing ≡ Some number
  pub there : slice_get parts number ≡ Some model
  pub is : placed parts placing ≡ Some model
  pub fits : bad_from model [] (connections_in placing.words) ≡ None
  pub connected : is_missing model (connections_in placing.words) ≡ false

-- a model is named, and it is there
titled : (number : List ℕ → Option ℕ) (head : PlacedToken) (title : Option PlacedToken) → unknown_by number head title ≡ None
    → (word : PlacedToken) × (title ≡ Some word) × ((n : ℕ) × (number word.text ≡ Some n))
titled number head None none = cc
titled number head (Some word) none = (word, refl, by_number (number word.text) none)
  where
    by_number : (found : Option ℕ) → cond (is_none found) (Some word) None ≡ None → (n : ℕ) × (found ≡ Some n)
    by_number None bad = cc
    by_number (Some n) fine = (n, refl)

fitting : (model : Part Model) (word : PlacedToken) (words : List PlacedToken) → bad_in (Some model) (Some word) words ≡ None
    → (is_missing model words ≡ false) × (bad_from model [] words ≡ None)
fitting model word words none = by_missing (is_missing model words) none
  where
    by_missing : (missing : Bool) → cond missing (Some word) (bad_from model [] words) ≡ None → (missing ≡ false) × (bad_from model [] words ≡ None)
    by_missing true bad = cc
    by_missing false fine = (refl, fine)

pub placed-well : (parts : Parts) → first_unknown parts ≡ None → first_bad parts ≡ None → (part : Part Model) → Among part parts
    → (placing : Placing) → Among placing part.placings → IsPlaced parts placing
placed-well parts known fit part among placing there =
    let told = none-told (unknown_word (model_named parts)) part.placings placing
    (none-told (λ (p : Part Model). first_some (unknown_word (model_named parts)) p.placings) parts part known among) there in
    let good = none-told (bad_word parts) part.placings placing
    (none-told (λ (p : Part Model). first_some (bad_word parts) p.placings) parts part fit among) there in
    let title = titled (model_named parts) placing.head (title_in placing.words) told in
    let found = at-position (λ (p : Part Model). is_named title.0.text p.title) 0 title.2.0 parts title.2.1 in
    let numbered : number_placed parts placing ≡ Some title.2.0 =
    ap (option_and_then (λ (word : PlacedToken). model_named parts word.text)) title.1 ∙ title.2.1 in
    let same : found.place ≡ title.2.0 = omega (arith, found.is) in
    let model : slice_get parts title.2.0 ≡ Some found.thing = ap (slice_get parts) (sym same) ∙ found.there in
    let is : placed parts placing ≡ Some found.thing = ap (option_and_then (slice_get parts)) numbered ∙ model in
    let bad : bad_in (Some found.thing) (Some title.0) (connections_in placing.words) ≡ None =
    ap (λ (m : Option (Part Model)). bad_in m (Some title.0) (connections_in placing.words)) (sym is)
    ∙ ap (λ (t : Option PlacedToken). bad_in (placed parts placing) t (connections_in placing.words)) (sym title.1) ∙ good in
    let both = fitting found.thing title.0 (connections_in placing.words) bad in
    record { number = title.2.0; model = found.thing; numbered = numbered; there = model; is = is; fits = both.1; connected = both.0 }
