-- Courses by lists of next places: what is read from them, and which lists are whole.
use Rattle.std.proofs.Common.{◌≡◌, inl, inr, refl, sym, ap, ◌∙◌, subst, ℕ, zero, suc, ◌+◌, ◌-◌, ◌≤◌, ◌<◌, Bool as Truth, true, false, List, [], ◌++◌, length, Some, arith}
use Rattle.std.specs.Prelude.{not, ◌==◌, if◌then◌else◌, slice_index}
use Rattle.std.proofs.lemmas.Bool.{cases_lt, cases_eq, lt-ltb, le-ltb, eq-eqb, both_ways}
use Rattle.std.proofs.lemmas.Bool.Decides.{nat_tests}
use Rattle.std.proofs.lemmas.List.{length-append}
use mathlib.Core.Path.{fun_ext}
use Rattle.psl_tree.specs.Trace.{dual_letter}
use Rattle.psl_tree.specs.Holds.{holds}
use Rattle.psl_tree.specs.Trees.{Boolean}
use Rattle.psl_tree.specs.declared.letter.Letter.{Letter}
use Rattle.psl_tree.specs.declared.letter.Letter.TheVariants.{Top, Bottom, Holds}
use Rattle.psl_tree.specs.declared.letter.Word.{Word}
use Rattle.alternating_theory.specs.Courses.{Course, walk, read_from, opposite, stopped, letter_in, places, letter_at, next_place, course_of}
use Rattle.lasso_tables.specs.Seen.{seen, seen_at, course_by, IsWhole, sink_of}
use Rattle.lasso_tables.specs.Tables.{value_at, Has, Leads}
use Rattle.lasso_tables.proofs.Letters.{past}

same_number : (a b : ℕ) → (a == b) ≡ true → a ≡ b
same_number a b h = grind (arith, nat_tests)

-- two courses with the same letters, and below a bound the same next places, which stay below it
pub same-read : (c d : Course) (n : ℕ) → ((p : ℕ) → c.letter p ≡ d.letter p) → ((p : ℕ) → p < n → c.next p ≡ d.next p)
    → ((p : ℕ) → p < n → c.next p < n) → (p : ℕ) → p < n → read_from c p ≡ read_from d p
same-read c d n letters same below p l = fun_ext (λ k. ap Some (letters (walk c.next k p) ∙ ap d.letter (walks k p l)))
  where
    walks : (k p : ℕ) → p < n → walk c.next k p ≡ walk d.next k p
    walks zero p l = refl
    walks (suc k) p l = walks k (c.next p) (below p l) ∙ ap (λ q. walk d.next k q) (same p l)

twice : (x : Letter) → dual_letter (dual_letter x) ≡ x
twice Top = refl
twice Bottom = refl
twice (Holds atoms) = refl

seen-opposite : (flipped : Truth) (x : Letter) → seen (not flipped) x ≡ dual_letter (seen flipped x)
seen-opposite true x = sym (twice x)
seen-opposite false x = refl

-- the dual is read where the other letters are seen
pub opposite-read : (word : Word) (flipped : Truth) (next : List ℕ) (p : ℕ)
    → read_from (course_by word (not flipped) next) p ≡ read_from (opposite (course_by word flipped next)) p
opposite-read word flipped next p = fun_ext (λ k. ap Some (seen-opposite flipped (letter_at word (walk (λ q. slice_index next q) k p))))

module _ (word : Word) where
  behind : (j : ℕ) → letter_at word (places word + j) ≡ letter_in [] j
  behind j =
      let long : length (word.stem ++ word.looped) ≡ places word = length-append word.stem word.looped in
      let rest : places word + j - length (word.stem ++ word.looped) ≡ j = omega arith in
      past (word.stem ++ word.looped) (places word + j) (omega arith) ∙ ap (λ n. letter_in [] n) rest

  pub top-letter : letter_at word (places word) ≡ Top
  top-letter = let e : places word ≡ places word + 0 = omega arith in ap (λ n. letter_at word n) e ∙ behind 0

  pub bottom-letter : letter_at word (suc (places word)) ≡ Bottom
  bottom-letter = let e : suc (places word) ≡ places word + 1 = omega arith in ap (λ n. letter_at word n) e ∙ behind 1

  pub sink-letter : (flipped : Truth) → seen_at word flipped (sink_of word flipped) ≡ Top
  sink-letter true = ap dual_letter bottom-letter
  sink-letter false = top-letter

  pub next-inside : (p : ℕ) → suc p < places word → next_place word p ≡ suc p
  next-inside p h = rw (lt-ltb (suc p) (places word) h) refl

  pub next-last : (p : ℕ) → suc p ≡ places word → next_place word p ≡ length word.stem
  next-last p h = let a = le-ltb (suc p) (places word) (omega arith) in let b = eq-eqb (suc p) (places word) h in rw (a, b) refl

  pub next-behind : (p : ℕ) → places word ≤ p → next_place word p ≡ p
  next-behind p h = let a = le-ltb (suc p) (places word) (omega arith) in rw a (at (suc p == places word) refl)
    where
      at : (t : Truth) → (suc p == places word) ≡ t → (if t then length word.stem else p) ≡ p
      at false e = refl
      at true e = absurd (let same = same_number (suc p) (places word) e in omega (arith, same))

  module _ (some : 0 < length word.looped) where
    pub next-below : (p : ℕ) → p < places word + 2 → next_place word p < places word + 2
    next-below p l = elim (cases_lt (suc p) (places word)) as (λ _. next_place word p < places word + 2) [
      | inl h ↦ omega (arith, next-inside p h)
      | inr h ↦ elim (cases_eq (suc p) (places word)) as (λ _. next_place word p < places word + 2) [
        | inl e ↦ omega (arith, next-last p e)
        | inr d ↦ omega (arith, next-behind p (omega arith))
      ]
    ]

    -- the list of the word's own next places
    pub own-whole : (next : List ℕ) → Leads (places word + 2) (λ p. next_place word p) next → IsWhole word next
    own-whole next s = record {
      same_length = s.same_length;
      below = λ p l. omega (arith, s.each p (omega (arith, s.same_length)), next-below p (omega (arith, s.same_length)), s.same_length);
      top_rests = s.each (places word) (omega arith) ∙ next-behind (places word) (omega arith);
      bottom_rests = s.each (suc (places word)) (omega arith) ∙ next-behind (suc (places word)) (omega arith);
    }

    pub own-read : (next : List ℕ) → Leads (places word + 2) (λ p. next_place word p) next → read_from (course_by word false next) 0 ≡ read_from (course_of word) 0
    own-read next s = same-read (course_by word false next) (course_of word) (places word + 2) (λ p. refl) (λ p l. s.each p l)
        (λ p l. omega (arith, s.each p l, next-below p l)) 0 (omega arith)

  -- the course that is halted at the places which stop it
  module _ (flipped : Truth) (test : Boolean) (next halted : List ℕ) (stops : List Truth) (sink : ℕ)
      (whole : IsWhole word next) (held : Has (length next) (λ p. holds (seen_at word flipped p) test) stops)
      (leads : Leads (length next) (λ p. if value_at stops (slice_index next p) then sink else slice_index next p) halted)
      (is : sink ≡ sink_of word flipped) where
    abbrev stop : ℕ → Truth
    stop p = holds (seen_at word flipped p) test

    sink-below : sink < length next
    sink-below = at flipped is
      where
        at : (t : Truth) → sink ≡ (if t then suc (places word) else places word) → sink < length next
        at true e = omega (arith, whole.same_length)
        at false e = omega (arith, whole.same_length)

    halted-step : (p : ℕ) → p < length next → slice_index halted p ≡ (if stop (slice_index next p) then sink else slice_index next p)
    halted-step p l = leads.each p l ∙ ap (λ (t : Truth). if t then sink else slice_index next p) (held.each (slice_index next p) (whole.below p l))

    halted-below : (p : ℕ) → p < length next → slice_index halted p < length next
    halted-below p l = subst (λ n. n < length next) (sym (halted-step p l)) (at (stop (slice_index next p)))
      where
        at : (t : Truth) → (if t then sink else slice_index next p) < length next
        at true = sink-below
        at false = whole.below p l

    -- a place that rests still rests
    rests : (p : ℕ) (x : Letter) → p < length next → slice_index next p ≡ p → ((t : Truth) → stop p ≡ t → (if t then sink else p) ≡ p) → slice_index halted p ≡ p
    rests p x l e at = halted-step p l ∙ ap (λ n. if stop n then sink else n) e ∙ at (stop p) refl

    top-stays : (t : Truth) → stop (places word) ≡ t → (if t then sink else places word) ≡ places word
    top-stays false e = refl
    top-stays true e = at flipped is (ap (λ (x : Letter). holds (seen flipped x) test) (sym top-letter) ∙ e)
      where
        at : (t : Truth) → sink ≡ (if t then suc (places word) else places word) → holds (seen t Top) test ≡ true → sink ≡ places word
        at false i h = i
        at true i h = absurd (both_ways true (sym h) refl)

    bottom-stays : (t : Truth) → stop (suc (places word)) ≡ t → (if t then sink else suc (places word)) ≡ suc (places word)
    bottom-stays false e = refl
    bottom-stays true e = at flipped is (ap (λ (x : Letter). holds (seen flipped x) test) (sym bottom-letter) ∙ e)
      where
        at : (t : Truth) → sink ≡ (if t then suc (places word) else places word) → holds (seen t Bottom) test ≡ true → sink ≡ suc (places word)
        at true i h = i
        at false i h = absurd (both_ways true (sym h) refl)

    pub halted-whole : IsWhole word halted
    halted-whole = record {
      same_length = leads.same_length ∙ whole.same_length;
      below = λ p l. omega (arith, halted-below p (omega (arith, leads.same_length)), leads.same_length);
      top_rests = rests (places word) Top (omega (arith, whole.same_length)) whole.top_rests top-stays;
      bottom_rests = rests (suc (places word)) Top (omega (arith, whole.same_length)) whole.bottom_rests bottom-stays;
    }

    pub sink-rests : slice_index next sink ≡ sink
    sink-rests = at flipped is
      where
        at : (t : Truth) → sink ≡ (if t then suc (places word) else places word) → slice_index next sink ≡ sink
        at true e = subst (λ n. slice_index next n ≡ n) (sym e) whole.bottom_rests
        at false e = subst (λ n. slice_index next n ≡ n) (sym e) whole.top_rests

    pub sink-top : seen_at word flipped sink ≡ Top
    sink-top = ap (λ n. seen_at word flipped n) is ∙ sink-letter flipped

    pub from-below : (p : ℕ) → p < length next → (if stop p then sink else p) < length next
    from-below p l = at (stop p)
      where
        at : (t : Truth) → (if t then sink else p) < length next
        at true = sink-below
        at false = l

    pub halted-read : (p : ℕ) → p < length next
        → read_from (course_by word flipped halted) p ≡ read_from (stopped (λ q. holds (seen_at word flipped q) test) sink (course_by word flipped next)) p
    halted-read p l = same-read (course_by word flipped halted) (stopped (λ q. stop q) sink (course_by word flipped next)) (length next)
        (λ q. refl) halted-step halted-below p l
