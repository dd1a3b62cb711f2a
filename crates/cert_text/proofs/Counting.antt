-- The most lemmas that are live at once, entry by entry.
use Rattle.std.proofs.Common.{◌≡◌, ◌∙◌, ap, sym, ℕ, suc, ◌+◌, ◌-◌, ◌≤◌, max, Bool, cond, nat_cmp, List, [], ◌∷◌, arith}
use Rattle.std.specs.Ordering.{ord_max}
use Rattle.std.proofs.lemmas.List.Sums.{sum_by-cons}
use Rattle.clauses.specs.Logs.{LogEntry, entry_words, is_lemma, lemmas, log_words}
use Rattle.clauses.specs.Logs.LogEntry.{Lemma, Forget}
use Rattle.cert_theory.specs.Printed.{held_after, most_from}

abbrev as_number : Bool → ℕ
as_number b = cond b 1 0

-- the lemmas that are live at first count
pub at_least : (held : ℕ) (log : List LogEntry) → held ≤ most_from held log
at_least held [] = omega arith
at_least held (entry ∷ log) = omega arith

-- the most so far and that of the entries that are left
most_step : (most held : ℕ) (entry : LogEntry) (log : List LogEntry) → held ≤ most
    → max (max most (held_after held entry)) (most_from (held_after held entry) log) ≡ max most (most_from held (entry ∷ log))
most_step most held entry log order = omega (arith, at_least (held_after held entry) log)

pub whole_step : (most held next greatest total : ℕ) (entry : LogEntry) (log entries : List LogEntry) → next ≡ held_after held entry → greatest ≡ max most next
    → entries ≡ entry ∷ log → held ≤ most → max most (most_from held entries) ≡ total → max greatest (most_from next log) ≡ total
whole_step most held next greatest total entry log entries is top split order whole =
    rw (top, is) (most_step most held entry log order ∙ sym (ap (λ es. max most (most_from held es)) split) ∙ whole)

pub greater : (a b result : ℕ) → result ≡ ord_max nat_cmp a b → result ≡ max a b
greater a b result is = grind arith

-- with each lemma that is live words are spent
held_words : (held : ℕ) (entry : LogEntry) (log : List LogEntry) → held_after held entry + log_words log ≤ held + log_words (entry ∷ log)
held_words held (Lemma literals hints) log = omega (arith, sum_by-cons entry_words (Lemma literals hints) log)
held_words held (Forget number) log = omega (arith, sum_by-cons entry_words (Forget number) log)

pub few_step : (most held next : ℕ) (entry : LogEntry) (log entries : List LogEntry) → next ≡ held_after held entry → entries ≡ entry ∷ log → held + log_words entries ≤ most
    → next + log_words log ≤ most
few_step most held next entry log entries is split few = omega (arith, is, ap log_words split, few, held_words held entry log)

-- lemmas have words
pub lemmas_words : (log : List LogEntry) → lemmas log ≤ log_words log
lemmas_words [] = omega arith
lemmas_words (Lemma literals hints ∷ log) =
    omega (arith, lemmas_words log, sum_by-cons entry_words (Lemma literals hints) log, sum_by-cons (λ entry. as_number (is_lemma entry)) (Lemma literals hints) log)
lemmas_words (Forget number ∷ log) =
    omega (arith, lemmas_words log, sum_by-cons entry_words (Forget number) log, sum_by-cons (λ entry. as_number (is_lemma entry)) (Forget number) log)

-- no more are live than there are
pub at_most : (held : ℕ) (log : List LogEntry) → most_from held log ≤ held + lemmas log
at_most held [] = omega arith
at_most held (Lemma literals hints ∷ log) =
    omega (arith, at_most (suc held) log, sum_by-cons (λ entry. as_number (is_lemma entry)) (Lemma literals hints) log)
at_most held (Forget number ∷ log) =
    omega (arith, at_most (held - 1) log, sum_by-cons (λ entry. as_number (is_lemma entry)) (Forget number) log)
