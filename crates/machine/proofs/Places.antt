-- The lists of one process among others.
use Rattle.std.proofs.Common.{◌≡◌, ℕ, ◌+◌, ◌<◌, ◌≤◌, Bool, ◌≢◌, ◌⊎◌, List, [], get_or, set, sym, refl, ap, ◌∙◌, subst, inl, inr, ⊎_elim, arith}
use Rattle.std.proofs.lemmas.List.{length-set, get_or-set_same, get_or-set_other}
use Rattle.machine.specs.Represent.{Lists, Has, Kept}

pub set_frames : {m : List (List ℕ)} {live : List Bool} {b : ℕ} {F W T L : List ℕ} (X : List ℕ) → Has m live b (record { frames = F; words = W; text = T; line = L }) → Has (set m b X) live b (record { frames = X; words = W; text = T; line = L })
set_frames {m} {live} {b} X h = record { inside = omega (arith, length-set m b X, h.inside); live0 = h.live0; live1 = h.live1; live2 = h.live2; live3 = h.live3; frames = get_or-set_same m b X [] (omega (arith, h.inside)); words = get_or-set_other m b (b + 1) X [] (omega arith) ∙ h.words; text = get_or-set_other m b (b + 2) X [] (omega arith) ∙ h.text; line = get_or-set_other m b (b + 3) X [] (omega arith) ∙ h.line }

pub set_words : {m : List (List ℕ)} {live : List Bool} {b : ℕ} {F W T L : List ℕ} (X : List ℕ) → Has m live b (record { frames = F; words = W; text = T; line = L }) → Has (set m (b + 1) X) live b (record { frames = F; words = X; text = T; line = L })
set_words {m} {live} {b} X h = record { inside = omega (arith, length-set m (b + 1) X, h.inside); live0 = h.live0; live1 = h.live1; live2 = h.live2; live3 = h.live3; frames = get_or-set_other m (b + 1) b X [] (omega arith) ∙ h.frames; words = get_or-set_same m (b + 1) X [] (omega (arith, h.inside)); text = get_or-set_other m (b + 1) (b + 2) X [] (omega arith) ∙ h.text; line = get_or-set_other m (b + 1) (b + 3) X [] (omega arith) ∙ h.line }

pub set_text : {m : List (List ℕ)} {live : List Bool} {b : ℕ} {F W T L : List ℕ} (X : List ℕ) → Has m live b (record { frames = F; words = W; text = T; line = L }) → Has (set m (b + 2) X) live b (record { frames = F; words = W; text = X; line = L })
set_text {m} {live} {b} X h = record { inside = omega (arith, length-set m (b + 2) X, h.inside); live0 = h.live0; live1 = h.live1; live2 = h.live2; live3 = h.live3; frames = get_or-set_other m (b + 2) b X [] (omega arith) ∙ h.frames; words = get_or-set_other m (b + 2) (b + 1) X [] (omega arith) ∙ h.words; text = get_or-set_same m (b + 2) X [] (omega (arith, h.inside)); line = get_or-set_other m (b + 2) (b + 3) X [] (omega arith) ∙ h.line }

pub set_line : {m : List (List ℕ)} {live : List Bool} {b : ℕ} {F W T L : List ℕ} (X : List ℕ) → Has m live b (record { frames = F; words = W; text = T; line = L }) → Has (set m (b + 3) X) live b (record { frames = F; words = W; text = T; line = X })
set_line {m} {live} {b} X h = record { inside = omega (arith, length-set m (b + 3) X, h.inside); live0 = h.live0; live1 = h.live1; live2 = h.live2; live3 = h.live3; frames = get_or-set_other m (b + 3) b X [] (omega arith) ∙ h.frames; words = get_or-set_other m (b + 3) (b + 1) X [] (omega arith) ∙ h.words; text = get_or-set_other m (b + 3) (b + 2) X [] (omega arith) ∙ h.text; line = get_or-set_same m (b + 3) X [] (omega (arith, h.inside)) }

-- a list that has come out as an equation says
pub now_frames : {m m' : List (List ℕ)} {live : List Bool} {b : ℕ} {F W T L : List ℕ} (f : List ℕ → List ℕ) {X : List ℕ} → m' ≡ set m b (f (get_or m b [])) → f F ≡ X → Has m live b (record { frames = F; words = W; text = T; line = L }) → Has m' live b (record { frames = X; words = W; text = T; line = L })
now_frames {m} {m'} {live} {b} {F} {W} {T} {L} f {X} u e h = subst (λ z. Has z live b (record { frames = X; words = W; text = T; line = L })) (sym (u ∙ ap (λ z. set m b z) (ap f h.frames ∙ e))) (set_frames X h)

pub now_words : {m m' : List (List ℕ)} {live : List Bool} {b : ℕ} {F W T L : List ℕ} (f : List ℕ → List ℕ) {X : List ℕ} → m' ≡ set m (b + 1) (f (get_or m (b + 1) [])) → f W ≡ X → Has m live b (record { frames = F; words = W; text = T; line = L }) → Has m' live b (record { frames = F; words = X; text = T; line = L })
now_words {m} {m'} {live} {b} {F} {W} {T} {L} f {X} u e h = subst (λ z. Has z live b (record { frames = F; words = X; text = T; line = L })) (sym (u ∙ ap (λ z. set m (b + 1) z) (ap f h.words ∙ e))) (set_words X h)

pub now_text : {m m' : List (List ℕ)} {live : List Bool} {b : ℕ} {F W T L : List ℕ} (f : List ℕ → List ℕ) {X : List ℕ} → m' ≡ set m (b + 2) (f (get_or m (b + 2) [])) → f T ≡ X → Has m live b (record { frames = F; words = W; text = T; line = L }) → Has m' live b (record { frames = F; words = W; text = X; line = L })
now_text {m} {m'} {live} {b} {F} {W} {T} {L} f {X} u e h = subst (λ z. Has z live b (record { frames = F; words = W; text = X; line = L })) (sym (u ∙ ap (λ z. set m (b + 2) z) (ap f h.text ∙ e))) (set_text X h)

pub now_line : {m m' : List (List ℕ)} {live : List Bool} {b : ℕ} {F W T L : List ℕ} (f : List ℕ → List ℕ) {X : List ℕ} → m' ≡ set m (b + 3) (f (get_or m (b + 3) [])) → f L ≡ X → Has m live b (record { frames = F; words = W; text = T; line = L }) → Has m' live b (record { frames = F; words = W; text = T; line = X })
now_line {m} {m'} {live} {b} {F} {W} {T} {L} f {X} u e h = subst (λ z. Has z live b (record { frames = F; words = W; text = T; line = X })) (sym (u ∙ ap (λ z. set m (b + 3) z) (ap f h.line ∙ e))) (set_line X h)

pub kept_none : {b : ℕ} {m : List (List ℕ)} → Kept b m m
kept_none = record { count = refl; others = λ i h. refl }

-- what is done to a list of the process
pub kept_set : {b : ℕ} {m : List (List ℕ)} (j : ℕ) (X : List ℕ) → b ≤ j → j < b + 4 → Kept b m (set m j X)
kept_set {b} {m} j X h l = record { count = length-set m j X; others = λ i o. get_or-set_other m j i X [] (⊎_elim {C = i ≢ j} (λ (q : i < b). omega arith) (λ (q : b + 4 ≤ i). omega arith) o) }

pub kept_then : {b : ℕ} {m m₁ m₂ : List (List ℕ)} → Kept b m m₁ → Kept b m₁ m₂ → Kept b m m₂
kept_then p q = record { count = q.count ∙ p.count; others = λ i o. q.others i o ∙ p.others i o }

-- what another process does to its lists
pub has_else : {b b' : ℕ} {m m' : List (List ℕ)} {live : List Bool} {ls : Lists} → (b + 4 ≤ b') ⊎ (b' + 4 ≤ b) → Kept b' m m' → Has m live b ls → Has m' live b ls
has_else {b} {b'} {m} {m'} o k h = record { inside = omega (arith, k.count, h.inside); live0 = h.live0; live1 = h.live1; live2 = h.live2; live3 = h.live3; frames = k.others b (away b (omega arith) (omega arith)) ∙ h.frames; words = k.others (b + 1) (away (b + 1) (omega arith) (omega arith)) ∙ h.words; text = k.others (b + 2) (away (b + 2) (omega arith) (omega arith)) ∙ h.text; line = k.others (b + 3) (away (b + 3) (omega arith) (omega arith)) ∙ h.line }
  where
    away : (i : ℕ) → b ≤ i → i < b + 4 → (i < b') ⊎ (b' + 4 ≤ i)
    away i p q = ⊎_elim (λ (l : b + 4 ≤ b'). inl (omega arith)) (λ (l : b' + 4 ≤ b). inr (omega arith)) o
