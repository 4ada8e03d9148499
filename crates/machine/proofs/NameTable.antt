-- A table of names, gone through from the first on.
use Rattle.std.proofs.Common.{◌≡◌, ℕ, ◌+◌, ◌<◌, ◌≤◌, true, false, List, [], ◌∷◌, length, get_or, drop, Bor}
use Rattle.std.proofs.lemmas.List.{drop_more, drop_all}
use Rattle.syntax.specs.Base.{pick}
use Rattle.words.specs.Encoding.{named}
use Rattle.machine.specs.declared.names.BuiltinName.{BuiltinName}
use Rattle.machine.specs.declared.names.BuiltinName.TheVariants.{Other}

-- the first of these that is the name of the words
abbrev pub found : List (Bor (List ℕ) × BuiltinName) → List ℕ → BuiltinName
found [] ws = Other
found (e ∷ es) ws = pick (named ws e.0.now) e.1 (found es ws)

pub found_here : (es : List (Bor (List ℕ) × BuiltinName)) (ws : List ℕ) (i : ℕ) (d : Bor (List ℕ) × BuiltinName) → i < length es → named ws (get_or es i d).0.now ≡ true → found (drop i es) ws ≡ (get_or es i d).1
found_here es ws i d l e = rw (drop_more es i d l, e)

pub found_later : (es : List (Bor (List ℕ) × BuiltinName)) (ws : List ℕ) (i : ℕ) (d : Bor (List ℕ) × BuiltinName) → i < length es → named ws (get_or es i d).0.now ≡ false → found (drop i es) ws ≡ found (drop (i + 1) es) ws
found_later es ws i d l e = rw (drop_more es i d l, e)

pub found_none : (es : List (Bor (List ℕ) × BuiltinName)) (ws : List ℕ) (i : ℕ) → length es ≤ i → found (drop i es) ws ≡ Other
found_none es ws i l = rw (drop_all i es l)
