-- What holds of each live clause, as clauses come and go.
use Rattle.std.proofs.Common.{◌≡◌, ℕ, zero, suc, ◌-◌, ℤ, leb, List, [], ◌∷◌, ◌++◌, set, get_or, Some, None, refl, subst, append_assoc}
use Rattle.std.proofs.lemmas.Bool.{cond_both}
use Rattle.std.proofs.lemmas.List.{append-nil}
use Rattle.clauses.specs.Live.{Numbered, clause_of, without}
use Rattle.clauses.specs.Logs.{LogEntry, after, after_all, EachLemma}
use Rattle.clauses.specs.Logs.LogEntry.{Lemma, Forget}

-- a fact of each live clause
abbrev pub EachLive : {L : Type 0} → (List L → Type 0) → Numbered L → Type 0
EachLive P clauses = (number : ℕ) (clause : List _) → clause_of clauses number ≡ Some clause → P clause

-- the same, by place
pub each_at : {L : Type 0} (P : List L → Type 0) (clauses : Numbered L) → EachLive P clauses → (place : ℕ) (clause : List L) → get_or clauses place None ≡ Some clause → P clause
each_at P clauses each place clause at = each (suc place) clause at

pub each_from : {L : Type 0} (P : List L → Type 0) (clauses : Numbered L) → ((place : ℕ) (clause : List L) → get_or clauses place None ≡ Some clause → P clause) → EachLive P clauses
each_from P clauses each zero clause at = cc
each_from P clauses each (suc place) clause at = each place clause at

-- a clause more
at_push : {L : Type 0} (P : List L → Type 0) (clauses : Numbered L) (more : List L) (place : ℕ) (clause : List L) → P more →
    (get_or clauses place None ≡ Some clause → P clause) → get_or (clauses ++ Some more ∷ []) place None ≡ Some clause → P clause
at_push P [] more zero clause here others at = let same : more ≡ clause = cc in subst P same here
at_push P [] more (suc place) clause here others at = cc
at_push P (first ∷ clauses) more zero clause here others at = others at
at_push P (first ∷ clauses) more (suc place) clause here others at = at_push P clauses more place clause here others at

pub each_live-push : {L : Type 0} (P : List L → Type 0) (clauses : Numbered L) (more : List L) → EachLive P clauses → P more → EachLive P (clauses ++ Some more ∷ [])
each_live-push P clauses more each here =
    each_from P (clauses ++ Some more ∷ []) (λ place clause. at_push P clauses more place clause here (each_at P clauses each place clause))

-- a clause taken out
at_set : {L : Type 0} (clauses : Numbered L) (gone place : ℕ) (clause : List L) → get_or (set clauses gone None) place None ≡ Some clause → get_or clauses place None ≡ Some clause
at_set [] gone place clause at = at
at_set (first ∷ clauses) zero zero clause at = cc
at_set (first ∷ clauses) zero (suc place) clause at = at
at_set (first ∷ clauses) (suc gone) zero clause at = at
at_set (first ∷ clauses) (suc gone) (suc place) clause at = at_set clauses gone place clause at

pub each_live-set : {L : Type 0} (P : List L → Type 0) (clauses : Numbered L) (gone : ℕ) → EachLive P clauses → EachLive P (set clauses gone None)
each_live-set P clauses gone each =
    each_from P (set clauses gone None) (λ place clause at. each_at P clauses each place clause (at_set clauses gone place clause at))

pub each_live-without : {L : Type 0} (P : List L → Type 0) (kept number : ℕ) (clauses : Numbered L) → EachLive P clauses → EachLive P (without kept number clauses)
each_live-without P kept number clauses each =
    cond_both (leb number kept) clauses (set clauses (number - 1) None) (EachLive P) (λ _. each) (λ _. each_live-set P clauses (number - 1) each)

-- the clauses after one entry more
pub after_all-push : (size : ℕ) (clauses : Numbered ℤ) (log : List LogEntry) (entry : LogEntry) → after_all size clauses (log ++ entry ∷ []) ≡ after size (after_all size clauses log) entry
after_all-push size clauses [] entry = refl
after_all-push size clauses (first ∷ log) entry = after_all-push size (after size clauses first) log entry

-- what holds of each lemma of a log holds of one of them, and of each in front of it
pub each_lemma-at : (P : List LogEntry → List ℤ → List ℕ → Type 0) (before front : List LogEntry) (literals : List ℤ) (hints : List ℕ) (behind : List LogEntry) →
    EachLemma P before (front ++ Lemma literals hints ∷ behind) → P (before ++ front) literals hints
each_lemma-at P before [] literals hints behind each = rw append-nil each.0
each_lemma-at P before (Lemma ls hs ∷ front) literals hints behind each =
    rw append_assoc at (each_lemma-at P (before ++ Lemma ls hs ∷ []) front literals hints behind each.1)
each_lemma-at P before (Forget n ∷ front) literals hints behind each =
    rw append_assoc at (each_lemma-at P (before ++ Forget n ∷ []) front literals hints behind each)

pub each_lemma-front : (P : List LogEntry → List ℤ → List ℕ → Type 0) (before front behind : List LogEntry) → EachLemma P before (front ++ behind) → EachLemma P before front
each_lemma-front P before [] behind each = tt
each_lemma-front P before (Lemma ls hs ∷ front) behind each = (each.0, each_lemma-front P (before ++ Lemma ls hs ∷ []) front behind each.1)
each_lemma-front P before (Forget n ∷ front) behind each = each_lemma-front P (before ++ Forget n ∷ []) front behind each

-- one entry more
pub each_lemma-push : (P : List LogEntry → List ℤ → List ℕ → Type 0) (before log : List LogEntry) (literals : List ℤ) (hints : List ℕ) →
    EachLemma P before log → P (before ++ log) literals hints → EachLemma P before (log ++ Lemma literals hints ∷ [])
each_lemma-push P before [] literals hints each here = (rw append-nil at here, tt)
each_lemma-push P before (Lemma ls hs ∷ log) literals hints each here =
    (each.0, each_lemma-push P (before ++ Lemma ls hs ∷ []) log literals hints each.1 (rw append_assoc here))
each_lemma-push P before (Forget n ∷ log) literals hints each here =
    each_lemma-push P (before ++ Forget n ∷ []) log literals hints each (rw append_assoc here)

pub each_lemma-push_drop : (P : List LogEntry → List ℤ → List ℕ → Type 0) (before log : List LogEntry) (number : ℕ) → EachLemma P before log → EachLemma P before (log ++ Forget number ∷ [])
each_lemma-push_drop P before [] number each = tt
each_lemma-push_drop P before (Lemma ls hs ∷ log) number each = (each.0, each_lemma-push_drop P (before ++ Lemma ls hs ∷ []) log number each.1)
each_lemma-push_drop P before (Forget n ∷ log) number each = each_lemma-push_drop P (before ++ Forget n ∷ []) log number each
