use Rattle.std.proofs.Common.{◌≡◌, ℕ, suc, ◌+◌, ◌%◌, Bool, true, false, ◌&&◌, leb, eqb, List, [], ◌∷◌, length, take, sym, refl, ap, ◌∙◌, rules, tests, arith}
use Rattle.std.specs.List.{list_all, zip}
use Rattle.std.proofs.lemmas.Iterator.{YieldsList-from_slice, YieldsList-from_zip}
use Rattle.std.proofs.lemmas.Iterator.Search.{all_from_yields_List}
use Rattle.syntax.specs.Base.{pick}
use Rattle.words.specs.Encoding.{named, word_length}
use Rattle.machine.proofs.names.is_named.Goals as goal

-- the first word is as long as the name
named_long : (ws nm : List ℕ) → length (take (word_length ws) ws) ≡ length nm → list_all (λ (p : ℕ × ℕ). eqb (p.0 % 256) p.1) (zip (take (word_length ws) ws) nm) ≡ named ws nm
named_long [] [] h = refl
named_long [] (b ∷ bs) h = absurd (omega arith)
named_long (w ∷ ws) nm h = by nm (leb 512 w) refl h (named_long ws)
  where
    by : (nm : List ℕ) (b : Bool) → leb 512 w ≡ b → length (take (pick b 0 (1 + word_length ws)) (w ∷ ws)) ≡ length nm → ((nm : List ℕ) → length (take (word_length ws) ws) ≡ length nm → list_all (λ (p : ℕ × ℕ). eqb (p.0 % 256) p.1) (zip (take (word_length ws) ws) nm) ≡ named ws nm) → list_all (λ (p : ℕ × ℕ). eqb (p.0 % 256) p.1) (zip (take (pick b 0 (1 + word_length ws)) (w ∷ ws)) nm) ≡ named (w ∷ ws) nm
    by [] true e h f = sym e
    by (b ∷ bs) true e h f = absurd (omega arith)
    by [] false e h f = let s : 1 + word_length ws ≡ suc (word_length ws) = omega arith in let z = rw s at h in absurd (omega (arith, z))
    by (b ∷ bs) false e h f = let s : 1 + word_length ws ≡ suc (word_length ws) = omega arith in let z = rw s at h in rw (e, s) (ap (λ y. eqb (w % 256) b && y) (f bs (omega (arith, z))))

-- it is not
named_other : (ws nm : List ℕ) → (length (take (word_length ws) ws) ≡ length nm → ⊥) → named ws nm ≡ false
named_other [] [] h = absurd (h refl)
named_other [] (b ∷ bs) h = refl
named_other (w ∷ ws) nm h = by nm (leb 512 w) refl h (named_other ws)
  where
    and_false : (a : Bool) → (a && false) ≡ false
    and_false true = refl
    and_false false = refl

    by : (nm : List ℕ) (b : Bool) → leb 512 w ≡ b → (length (take (pick b 0 (1 + word_length ws)) (w ∷ ws)) ≡ length nm → ⊥) → ((nm : List ℕ) → (length (take (word_length ws) ws) ≡ length nm → ⊥) → named ws nm ≡ false) → named (w ∷ ws) nm ≡ false
    by [] true e h f = absurd (h refl)
    by (b ∷ bs) true e h f = rw e
    by [] false e h f = e
    by (b ∷ bs) false e h f = let s : 1 + word_length ws ≡ suc (word_length ws) = omega arith in let z = rw s at h in rw (e, f bs (λ q. z (ap suc q))) (and_false (eqb (w % 256) b))

pub returns-then-word-name : goal.returns-then-word-name
returns-then-word-name c =
    let ws = take c.word_len.result c.args.words.now in
    let nm = c.as_bytes-name.result.now in
    let first = YieldsList-from_slice {s = c.zip.result.a} ws (ap (λ i. i.rest.now) c.zip.ensures.first ∙ c.iter.ensures.rest) in
    let second = YieldsList-from_slice {s = c.zip.result.b} nm c.zip.ensures.second.0 in
    let p = all_from_yields_List {s = c.zip.result} (λ (p : ℕ × ℕ). eqb (p.0 % 256) p.1) c.all.new.self _ c.all.result c.all.ensures.ran (YieldsList-from_zip {s = c.zip.result} first second) (λ x b q k. search (rules, tests)) in
    let e : c.as_bytes-name.result.now ≡ c.args.name.now = c.as_bytes-name.ensures.value in
    p ∙ rw (c.word_len.ensures.is, e) (named_long c.args.words.now c.args.name.now (rw (c.word_len.ensures.is, e) at c.if-word-name.true))

pub returns-else-word-name : goal.returns-else-word-name
returns-else-word-name c = let e = c.as_bytes-name.ensures.value in rw (c.word_len.ensures.is, e) (unequal _ _ (rw (c.word_len.ensures.is, e) at c.if-word-name.false) ∙ sym (named_other c.args.words.now c.args.name.now (rw (c.word_len.ensures.is, e) at c.if-word-name.false)))
  where
    unequal : (a b : ℕ) → (a ≡ b → ⊥) → eqb a b ≡ false
    unequal a b h = grind arith
