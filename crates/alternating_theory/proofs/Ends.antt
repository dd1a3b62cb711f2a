-- Courses of finitely many places, of which one stands for Top for ever and one for Bottom for ever.
use Rattle.std.proofs.Common.{◌≡◌, inl, inr, refl, sym, ap, ◌∙◌, subst, ℕ, zero, suc, ◌+◌, ◌≤◌, ◌<◌, Bool as Truth, true, false, List, [], ◌∷◌, ◌++◌, length, arith}
use Rattle.std.specs.Prelude.{if◌then◌else◌}
use Rattle.std.proofs.lemmas.Bool.{lt-ltb, le-ltb, eq-eqb, ne_eqb, cases_lt}
use Rattle.std.proofs.lemmas.List.{length-append}
use Rattle.psl_tree.specs.Trace.{dual_letter}
use Rattle.psl_tree.specs.Holds.{holds}
use Rattle.psl_tree.specs.Trees.{Boolean}
use Rattle.psl_tree.specs.declared.letter.Letter.{Letter}
use Rattle.psl_tree.specs.declared.letter.Letter.TheVariants.{Top, Bottom}
use Rattle.psl_tree.specs.declared.letter.Word.{Word}
use Rattle.alternating_theory.specs.Courses.{Course, opposite, stopped, letter_in, places, next_place, course_of}

pub record IsCourse (c : Course) (n top bottom : ℕ) : Type 0 where
  pub next_below : (p : ℕ) → p < n → c.next p < n
  pub top_below : top < n
  pub bottom_below : bottom < n
  pub top_letter : c.letter top ≡ Top
  pub top_next : c.next top ≡ top
  pub bottom_letter : c.letter bottom ≡ Bottom
  pub bottom_next : c.next bottom ≡ bottom

pub opposite-course : (c : Course) (n top bottom : ℕ) → IsCourse c n top bottom → IsCourse (opposite c) n bottom top
opposite-course c n top bottom u = record {
  next_below = u.next_below;
  top_below = u.bottom_below;
  bottom_below = u.top_below;
  top_letter = ap dual_letter u.bottom_letter;
  top_next = u.bottom_next;
  bottom_letter = ap dual_letter u.top_letter;
  bottom_next = u.top_next;
}

pub stopped-course : (c : Course) (n top bottom : ℕ) (b : Boolean) → IsCourse c n top bottom → IsCourse (stopped (λ p. holds (c.letter p) b) top c) n top bottom
stopped-course c n top bottom b u = record {
  next_below = λ p l. at (holds (c.letter (c.next p)) b) (c.next p) (u.next_below p l);
  top_below = u.top_below;
  bottom_below = u.bottom_below;
  top_letter = u.top_letter;
  top_next = same (holds (c.letter (c.next top)) b);
  bottom_letter = u.bottom_letter;
  bottom_next =
      ap (λ (t : Truth). if t then top else c.next bottom) (ap (λ q. holds (c.letter q) b) u.bottom_next ∙ ap (λ (x : Letter). holds x b) u.bottom_letter) ∙ u.bottom_next;
}
  where
    at : (t : Truth) (q : ℕ) → q < n → (if t then top else q) < n
    at true q l = u.top_below
    at false q l = l

    same : (t : Truth) → (if t then top else c.next top) ≡ top
    same true = refl
    same false = u.top_next

-- the places of a word, and the two behind it
letter-top : (xs : List Letter) (n : ℕ) → n ≡ length xs → letter_in xs n ≡ Top
letter-top [] zero e = refl
letter-top [] (suc n) e = absurd (omega arith)
letter-top (x ∷ xs) zero e = absurd (omega arith)
letter-top (x ∷ xs) (suc n) e = letter-top xs n (omega arith)

letter-bottom : (xs : List Letter) (n : ℕ) → n ≡ length xs + 1 → letter_in xs n ≡ Bottom
letter-bottom [] zero e = absurd (omega arith)
letter-bottom [] (suc n) e = refl
letter-bottom (x ∷ xs) zero e = absurd (omega arith)
letter-bottom (x ∷ xs) (suc n) e = letter-bottom xs n (omega arith)

-- a place behind the word is its own next place
stays-behind : (word : Word) (p : ℕ) → places word ≤ p → next_place word p ≡ p
stays-behind word p h =
    let a = le-ltb (suc p) (places word) (omega arith) in
    let b = ne_eqb (suc p) (places word) (λ e. omega arith) in rw (a, b) refl

-- the next place of a place of the word is one of the word
pub word-next : (word : Word) → 0 < length word.looped → (p : ℕ) → p < places word → next_place word p < places word
word-next word some p h = elim (cases_lt (suc p) (places word)) [
  | inl l ↦ subst (λ (k : ℕ). k < places word) (sym (inside l)) l
  | inr l ↦ subst (λ (k : ℕ). k < places word) (sym (last (omega arith))) (omega arith)
]
  where
    inside : suc p < places word → next_place word p ≡ suc p
    inside l = rw (lt-ltb (suc p) (places word) l) refl

    last : suc p ≡ places word → next_place word p ≡ length word.stem
    last e = let a = le-ltb (suc p) (places word) (omega arith) in let b = eq-eqb (suc p) (places word) e in rw (a, b) refl

pub word-course : (word : Word) → 0 < length word.looped → IsCourse (course_of word) (places word + 2) (places word) (places word + 1)
word-course word some = record {
  next_below = λ p h. elim (cases_lt p (places word)) [
    | inl l ↦ (let e = word-next word some p l in omega arith)
    | inr l ↦ subst (λ (k : ℕ). k < places word + 2) (sym (stays-behind word p l)) h
  ];
  top_below = omega arith;
  bottom_below = omega arith;
  top_letter = letter-top (word.stem ++ word.looped) (places word) (sym many);
  top_next = stays-behind word (places word) (omega arith);
  bottom_letter = letter-bottom (word.stem ++ word.looped) (places word + 1) (ap (λ n. n + 1) (sym many));
  bottom_next = stays-behind word (places word + 1) (omega arith);
}
  where
    many : length (word.stem ++ word.looped) ≡ places word
    many = length-append word.stem word.looped
