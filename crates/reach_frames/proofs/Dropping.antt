-- Going over a list and taking out what does not pass.
use Rattle.std.proofs.Common.{◌≡◌, suc, ◌+◌, ◌<◌, ◌≤◌, ℕ, Bool, true, false, cond, List, [], ◌∷◌, ◌++◌, length, get_or, set, take, drop}
use Rattle.std.proofs.Common.{refl, sym, ap, subst, ◌∙◌, arith, append_assoc, length-append, length-set}
use Rattle.std.specs.List.{filter, remove}
use Rattle.std.proofs.lemmas.List.{append-nil, drop_at, get_or_at, get_or-set_same, nil_from_length, set-set, take_at}
use Rattle.std.proofs.lemmas.List.Elements.{filter-append}

-- a list was gone over up to a place: of what was seen there is left what passes, and the rest is there
pub record IsGoneOver {X : Type 0} (test : X → Bool) (old now : List X) (place : ℕ) : Type 0 where
  pub seen : List X
  pub rest : List X
  pub old_is : old ≡ seen ++ rest
  pub now_is : now ≡ filter test seen ++ rest
  pub place_is : place ≡ length (filter test seen)

pub gone_none : {X : Type 0} (test : X → Bool) (old : List X) → IsGoneOver test old old 0
gone_none test old = record { seen = []; rest = old; old_is = refl; now_is = refl; place_is = refl }

pub gone_all : {X : Type 0} (test : X → Bool) (old now : List X) (place : ℕ) → IsGoneOver test old now place → length now ≤ place → now ≡ filter test old
gone_all test old now place is end =
    let none : is.rest ≡ [] = nil_from_length is.rest (omega (arith, end, is.place_is, ap length is.now_is, length-append (filter test is.seen) is.rest)) in
    is.now_is
    ∙ ap (λ rest. filter test is.seen ++ rest) none
    ∙ append-nil (filter test is.seen)
    ∙ ap (filter test) (sym (append-nil is.seen) ∙ ap (λ rest. is.seen ++ rest) (sym none) ∙ sym is.old_is)

-- the member at the place
member_at : {X : Type 0} (front now : List X) (place : ℕ) (d : X) → place < length now → place ≡ length front → (rest : List X) → now ≡ front ++ rest
    → (x : X) × (behind : List X) × (rest ≡ x ∷ behind) × (get_or now place d ≡ x)
member_at front now place d within place_is [] now_is = absurd (omega (arith, within, place_is, ap length now_is, ap length (append-nil front)))
member_at front now place d within place_is (x ∷ behind) now_is =
    (x, behind, refl, ap (λ xs. get_or xs place d) now_is ∙ get_or_at front x behind d place (sym place_is))

-- it stays
pub gone_past : {X : Type 0} (test : X → Bool) (old now : List X) (place : ℕ) (d : X) → IsGoneOver test old now place → place < length now
    → test (get_or now place d) ≡ true → IsGoneOver test old now (place + 1)
gone_past test old now place d is within passes =
    let front = filter test is.seen in
    let next = member_at front now place d within is.place_is is.rest is.now_is in
    let x = next.0 in
    let behind = next.1 in
    let passed : test x ≡ true = ap test (sym next.3) ∙ passes in
    let more : filter test (is.seen ++ x ∷ []) ≡ front ++ x ∷ [] =
    filter-append test is.seen (x ∷ []) ∙ ap (λ (b : Bool). front ++ cond b (x ∷ []) []) passed in
    record {
      seen = is.seen ++ x ∷ [];
      rest = behind;
      old_is = is.old_is ∙ ap (λ rest. is.seen ++ rest) next.2 ∙ sym (append_assoc is.seen (x ∷ []) behind);
      now_is = is.now_is ∙ ap (λ rest. front ++ rest) next.2 ∙ sym (append_assoc front (x ∷ []) behind) ∙ ap (λ xs. xs ++ behind) (sym more);
      place_is = omega (arith, is.place_is, ap length more, length-append front (x ∷ []));
    }

-- it is taken out
pub gone_out : {X : Type 0} (test : X → Bool) (old now : List X) (place : ℕ) (d : X) → IsGoneOver test old now place → place < length now
    → test (get_or now place d) ≡ false → IsGoneOver test old (remove now place) place
gone_out test old now place d is within fails =
    let front = filter test is.seen in
    let next = member_at front now place d within is.place_is is.rest is.now_is in
    let x = next.0 in
    let behind = next.1 in
    let failed : test x ≡ false = ap test (sym next.3) ∙ fails in
    let more : filter test (is.seen ++ x ∷ []) ≡ front =
    filter-append test is.seen (x ∷ []) ∙ ap (λ (b : Bool). front ++ cond b (x ∷ []) []) failed ∙ append-nil front in
    let split : now ≡ front ++ x ∷ behind = is.now_is ∙ ap (λ rest. front ++ rest) next.2 in
    let longer : now ≡ (front ++ x ∷ []) ++ behind = split ∙ sym (append_assoc front (x ∷ []) behind) in
    let size : length (front ++ x ∷ []) ≡ suc place = omega (arith, is.place_is, length-append front (x ∷ [])) in
    let left : take place now ≡ front = ap (take place) split ∙ take_at front (x ∷ behind) place (sym is.place_is) in
    let right : drop (suc place) now ≡ behind = ap (drop (suc place)) longer ∙ drop_at (front ++ x ∷ []) behind (suc place) size in
    record {
      seen = is.seen ++ x ∷ [];
      rest = behind;
      old_is = is.old_is ∙ ap (λ rest. is.seen ++ rest) next.2 ∙ sym (append_assoc is.seen (x ∷ []) behind);
      now_is = ap (λ xs. xs ++ drop (suc place) now) left ∙ ap (λ xs. front ++ xs) right ∙ ap (λ xs. xs ++ behind) (sym more);
      place_is = is.place_is ∙ ap length (sym more);
    }

-- of one of several lists
pub out_of_one : {X : Type 0} (test : X → Bool) (old now new : List (List X)) (at place : ℕ) (d : X) → at < length now → now ≡ set old at (get_or now at [])
    → IsGoneOver test (get_or old at []) (get_or now at []) place → place < length (get_or now at []) → test (get_or (get_or now at []) place d) ≡ false
    → new ≡ set now at (remove (get_or now at []) place)
    → (at < length new) × (new ≡ set old at (get_or new at [])) × IsGoneOver test (get_or old at []) (get_or new at []) place
out_of_one {X} test old now new at place d inside others is within fails new_is =
    let list = remove (get_or now at []) place in
    let here : get_or new at [] ≡ list = ap (λ ls. get_or ls at []) new_is ∙ get_or-set_same now at list [] inside in
    let P : List X → Type 0 = λ xs. IsGoneOver test (get_or old at []) xs place in (
      omega (arith, inside, ap length new_is, length-set now at list),
      new_is ∙ ap (λ ls. set ls at list) others ∙ set-set old at (get_or now at []) list ∙ ap (set old at) (sym here),
      subst P (sym here) (gone_out test (get_or old at []) (get_or now at []) place d is within fails),
    )
