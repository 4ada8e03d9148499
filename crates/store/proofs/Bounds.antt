-- What a refusal tells of the words lent.
use Rattle.std.proofs.Common.{◌≡◌, ℕ, ◌+◌, ◌*◌, ◌/◌, ◌<◌, Bool, true, false, cond, ltb, List, get_or, Some, None, Err, refl, arith}
use Rattle.std.proofs.lemmas.Bool.{leb-false, or_parts}
use Rattle.std.specs.List.{prefix_len}
use Rattle.segments.specs.Layout.{need}
use Rattle.store.specs.declared.Refusal.TheVariants.{NotInUse, NoRoom}
use Rattle.store.specs.Sums.{extent, asked, enough, told}
use Rattle.store.specs.Dense.{FewForWords, FewForFresh, FewForBlock}
use Rattle.store.proofs.Density.{dense_count}

-- n words in the lists, e numbers, and a list that is to have m words: so few were lent
few_lent : (all n e m : ℕ) → all / 2 < n + n / 4 + 8 * e + all / 2 / 8 + (m + m / 2 + 8) → all < 3 * n + 19 * e + 4 * m + 20
few_lent all n e m h = omega arith

pub no_room : (all : ℕ) (b : ℕ × List Bool) (ms : List (List ℕ)) (m : ℕ) → b.0 ≡ all / 2 → enough b ms (asked m) ≡ false →
    all < 3 * need ms + 19 * extent b.1 + 4 * m + 20
unfolding enough
no_room all b ms m q e = few_lent all (need ms) (extent b.1) m (rw q at (leb-false _ _ e))

few_for_entry : (all n e : ℕ) → all / 2 < n + n / 4 + 8 * e + all / 2 / 8 + 8 → all < 3 * n + 19 * e + 20
few_for_entry all n e h = omega arith

pub no_number : (all : ℕ) (b : ℕ × List Bool) (ms : List (List ℕ)) → b.0 ≡ all / 2 → enough b ms 8 ≡ false → all < 3 * need ms + 19 * extent b.1 + 20
unfolding enough
no_number all b ms q e = few_for_entry all (need ms) (extent b.1) (rw q at (leb-false _ _ e))

-- what the answers say
pub told_no_room : (a e : Bool) → told a e ≡ Err NoRoom → (a ≡ true) × (e ≡ false)
told_no_room false e q = absurd (let z : NotInUse ≡ NoRoom = cc in let y : ◌≡◌ {A = ℕ} 0 1 = cc in omega arith)
told_no_room true false q = (refl, refl)
told_no_room true true q = absurd (let y : ◌≡◌ {A = ℕ} 0 1 = cc in omega arith)

none_is_false : (c : Bool) (v : ℕ) → cond c (Some v) None ≡ None → c ≡ false
none_is_false true v q = absurd (let z : ◌≡◌ {A = ℕ} 0 1 = cc in omega arith)
none_is_false false v q = refl

few_for_entries : (all n e k : ℕ) → all / 2 < n + n / 4 + 8 * e + all / 2 / 8 + 8 * k → all < 3 * n + 19 * (e + k) + 20
few_for_entries all n e k h = omega arith

pub no_numbers : (all : ℕ) (b : ℕ × List Bool) (ms : List (List ℕ)) (k : ℕ) → b.0 ≡ all / 2 → enough b ms (8 * k) ≡ false →
    all < 3 * need ms + 19 * (extent b.1 + k) + 20
unfolding enough
no_numbers all b ms k q e = few_for_entries all (need ms) (extent b.1) k (rw q at (leb-false _ _ e))

-- in a dense store, by the lists in use
pub few_for_words : FewForWords
few_for_words all b ms i m q d r = rw (← (dense_count b.1 d).0) (no_room all b ms m q (told_no_room (get_or b.1 i false) (enough b ms (asked m)) r).1)

pub few_for_fresh : FewForFresh
few_for_fresh all b ms q d r = rw (← (dense_count b.1 d).0)
    (no_number all b ms q (or_parts (ltb (prefix_len (λ b. b) b.1) (extent b.1)) (enough b ms 8) (none_is_false _ (prefix_len (λ b. b) b.1) r)).1)

pub few_for_block : FewForBlock
few_for_block all b ms k q d r = rw (← (dense_count b.1 d).0) (no_numbers all b ms k q (none_is_false (enough b ms (8 * k)) (extent b.1) r))
