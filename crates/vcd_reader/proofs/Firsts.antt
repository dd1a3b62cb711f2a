-- The first fault by recursion, against the first fault as a place among the tokens.
use Rattle.std.proofs.Common.{◌≡◌, ℕ, Bool, true, false, List, [], ◌∷◌, ◌++◌, Option, None, Some, Ok, Err, refl, sym, ap, subst, ◌∙◌, append_assoc, ◌⊎◌, inl, inr}
use Rattle.std.proofs.lemmas.List.{append-nil}
use Rattle.std.specs.Option.{option_or}
use Rattle.psl_base.specs.Tokens.{PlacedToken, tokens}
use Rattle.psl_base.specs.declared.place.Place.{Place}
use Rattle.vcd_reader.specs.declared.fault.VcdFault.{VcdFault}
use Rattle.vcd_reader.specs.declared.fault.VcdFault.TheVariants.{EndsInside}
use Rattle.vcd_reader.specs.declared.unknown.Unknown.{Unknown}
use Rattle.vcd_reader.specs.FirstFault.{HaveNone, IsFaultless, IsFirst}
use Rattle.vcd_reader.specs.Meaning.{fault_at, may_end_after, fault_at_end, first_fault, dump_by, unless, end_of, reading, sampled_of}
use Rattle.vcd_reader.specs.Sampled.{Sampled}

-- the first fault of tokens behind others is that of a token
record OfToken (start ts : List PlacedToken) (found : VcdFault) : Type 0 where
  before : List PlacedToken
  token : PlacedToken
  after : List PlacedToken
  pieces : ts ≡ before ++ token ∷ after
  none : HaveNone start before
  here : fault_at (start ++ before) token ≡ Some found

-- or that of the end
record OfEnd (end : Place) (start ts : List PlacedToken) (found : VcdFault) : Type 0 where
  none : HaveNone start ts
  early : may_end_after (start ++ ts) ≡ false
  here : EndsInside end ≡ found

-- what is found
abbrev Found : Place → List PlacedToken → List PlacedToken → Option VcdFault → Type 0
Found end start ts None = HaveNone start ts × (may_end_after (start ++ ts) ≡ true)
Found end start ts (Some found) = OfToken start ts found ⊎ OfEnd end start ts found

found_back : (end : Place) (start : List PlacedToken) (x : PlacedToken) (ts : List PlacedToken) (fault : Option VcdFault) → fault_at start x ≡ None → Found end (start ++ x ∷ []) ts fault → Found end start (x ∷ ts) fault
found_back end start x ts None none found = ((none, found.0), ap may_end_after (sym (append_assoc start (x ∷ []) ts)) ∙ found.1)
found_back end start x ts (Some fault) none (inl of_token) = inl (record {
  before = x ∷ of_token.before;
  token = of_token.token;
  after = of_token.after;
  pieces = ap (λ (rest : List PlacedToken). x ∷ rest) of_token.pieces;
  none = (none, of_token.none);
  here = ap (λ (all : List PlacedToken). fault_at all of_token.token) (sym (append_assoc start (x ∷ []) of_token.before)) ∙ of_token.here;
})
found_back end start x ts (Some fault) none (inr of_end) = inr (record {
  none = (none, of_end.none);
  early = ap may_end_after (sym (append_assoc start (x ∷ []) ts)) ∙ of_end.early;
  here = of_end.here;
})

by_rule : (end : Place) (start : List PlacedToken) (x : PlacedToken) (ts : List PlacedToken) (fault later : Option VcdFault) → fault_at start x ≡ fault → Found end (start ++ x ∷ []) ts later → Found end start (x ∷ ts) (option_or fault later)
by_rule end start x ts None later here found = found_back end start x ts later here found
by_rule end start x ts (Some fault) later here found = inl (record {
  before = [];
  token = x;
  after = ts;
  pieces = refl;
  none = tt;
  here = ap (λ (all : List PlacedToken). fault_at all x) (append-nil start) ∙ here;
})

by_end : (end : Place) (start : List PlacedToken) (may : Bool) → may_end_after start ≡ may → Found end start [] (fault_at_end end may)
by_end end start true here = (tt, ap may_end_after (append-nil start) ∙ here)
by_end end start false here = inr (record { none = tt; early = ap may_end_after (append-nil start) ∙ here; here = refl })

-- what the recursion gives is so
is_found : (end : Place) (start ts : List PlacedToken) → Found end start ts (first_fault end start ts)
is_found end start [] = by_end end start (may_end_after start) refl
is_found end start (x ∷ ts) = by_rule end start x ts (fault_at start x) (first_fault end (start ++ x ∷ []) ts) refl (is_found end (start ++ x ∷ []) ts)

-- and nothing else is
passes : (end : Place) (start front back : List PlacedToken) → HaveNone start front → first_fault end start (front ++ back) ≡ first_fault end (start ++ front) back
passes end start [] back none = ap (λ (all : List PlacedToken). first_fault end all back) (sym (append-nil start))
passes end start (x ∷ front) back none =
    ap (λ (fault : Option VcdFault). option_or fault (first_fault end (start ++ x ∷ []) (front ++ back))) none.0
    ∙ passes end (start ++ x ∷ []) front back none.1 ∙ ap (λ (all : List PlacedToken). first_fault end all back) (append_assoc start (x ∷ []) front)

-- of tokens that all have none, the fault is that of the end
by_all : (end : Place) (ts : List PlacedToken) (may : Bool) → HaveNone [] ts → may_end_after ts ≡ may → first_fault end [] ts ≡ fault_at_end end may
by_all end ts may none here = ap (first_fault end []) (sym (append-nil ts)) ∙ passes end [] ts [] none ∙ ap (fault_at_end end) here

pub faultless-none : (end : Place) (ts : List PlacedToken) → IsFaultless ts → first_fault end [] ts ≡ None
faultless-none end ts none = by_all end ts true none.0 none.1

pub first-some : (end : Place) (ts : List PlacedToken) (found : VcdFault) → IsFirst end ts found → first_fault end [] ts ≡ Some found
first-some end ts found (inl is) =
    ap (first_fault end []) is.pieces ∙ passes end [] is.before (is.token ∷ is.after) is.none
    ∙ ap (λ (fault : Option VcdFault). option_or fault (first_fault end (is.before ++ is.token ∷ []) is.after)) is.here
first-some end ts found (inr is) = by_all end ts false is.none is.early ∙ ap Some is.here

pub none-faultless : (end : Place) (ts : List PlacedToken) → first_fault end [] ts ≡ None → IsFaultless ts
none-faultless end ts none = subst (Found end [] ts) none (is_found end [] ts)

by_found : (end : Place) (ts : List PlacedToken) (found : VcdFault) → Found end [] ts (Some found) → IsFirst end ts found
by_found end ts found (inl is) = inl (record { before = is.before; token = is.token; after = is.after; pieces = is.pieces; none = is.none; here = is.here })
by_found end ts found (inr is) = inr (record { none = is.none; early = is.early; here = is.here })

pub some-first : (end : Place) (ts : List PlacedToken) (found : VcdFault) → first_fault end [] ts ≡ Some found → IsFirst end ts found
some-first end ts found some = by_found end ts found (subst (Found end [] ts) some (is_found end [] ts))

-- the same of the bytes of a file
pub faultless-reading : (unknown : Unknown) (bytes : List ℕ) → IsFaultless (tokens bytes) → reading unknown bytes ≡ Ok (sampled_of unknown (dump_by (tokens bytes)))
faultless-reading unknown bytes none = ap (λ (fault : Option VcdFault). unless fault (sampled_of unknown (dump_by (tokens bytes)))) (faultless-none (end_of bytes) (tokens bytes) none)

pub first-reading : (unknown : Unknown) (bytes : List ℕ) (found : VcdFault) → IsFirst (end_of bytes) (tokens bytes) found → reading unknown bytes ≡ Err found
first-reading unknown bytes found is = ap (λ (fault : Option VcdFault). unless fault (sampled_of unknown (dump_by (tokens bytes)))) (first-some (end_of bytes) (tokens bytes) found is)

by_ok : (said recording : Sampled) (fault : Option VcdFault) → unless fault said ≡ Ok recording → (fault ≡ None) × (said ≡ recording)
by_ok said recording None read = (refl, cc)
by_ok said recording (Some found) read = absurd (let wrong : Err found ≡ Ok recording = read in cc)

pub reading-faultless : (unknown : Unknown) (bytes : List ℕ) (recording : Sampled) → reading unknown bytes ≡ Ok recording → IsFaultless (tokens bytes) × (sampled_of unknown (dump_by (tokens bytes)) ≡ recording)
reading-faultless unknown bytes recording read =
    let found = by_ok (sampled_of unknown (dump_by (tokens bytes))) recording (first_fault (end_of bytes) [] (tokens bytes)) read in
    (none-faultless (end_of bytes) (tokens bytes) found.0, found.1)

by_err : (said : Sampled) (fault : Option VcdFault) (found : VcdFault) → unless fault said ≡ Err found → fault ≡ Some found
by_err said None found read = absurd (let wrong : Ok said ≡ Err found = read in cc)
by_err said (Some same) found read = let equal : same ≡ found = cc in ap Some equal

pub reading-first : (unknown : Unknown) (bytes : List ℕ) (found : VcdFault) → reading unknown bytes ≡ Err found → IsFirst (end_of bytes) (tokens bytes) found
reading-first unknown bytes found read = some-first (end_of bytes) (tokens bytes) found (by_err (sampled_of unknown (dump_by (tokens bytes))) (first_fault (end_of bytes) [] (tokens bytes)) found read)

by_answer : (said : Sampled) (fault : Option VcdFault) → ((recording : Sampled) × (unless fault said ≡ Ok recording)) ⊎ ((found : VcdFault) × (unless fault said ≡ Err found))
by_answer said None = inl (said, refl)
by_answer said (Some found) = inr (found, refl)

pub some_answer : (unknown : Unknown) (bytes : List ℕ) → ((recording : Sampled) × (reading unknown bytes ≡ Ok recording)) ⊎ ((found : VcdFault) × (reading unknown bytes ≡ Err found))
some_answer unknown bytes = by_answer (sampled_of unknown (dump_by (tokens bytes))) (first_fault (end_of bytes) [] (tokens bytes))

pub one_answer : (unknown : Unknown) (bytes : List ℕ) (recording : Sampled) (found : VcdFault) → reading unknown bytes ≡ Ok recording → reading unknown bytes ≡ Err found → ⊥
one_answer unknown bytes recording found read refused = let wrong : Ok recording ≡ Err found = sym read ∙ refused in cc
