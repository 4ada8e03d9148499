-- Chains of cells: the first word of each is the address of the next, or 0.
use Rattle.std.specs.Prelude.{◌≡◌, ℕ, zero, suc, ◌+◌, Bool, true, List, [], ◌∷◌, length, ◌==◌, slice_index, Option}
use Rattle.std.specs.Iterator.{YieldsFirst}
use Rattle.syntax.specs.Base.{pick}
use Rattle.code.specs.declared.chain.Chain.{Chain}

-- the cells of the chain from a on, n of them at most
abbrev pub cells : List ℕ → ℕ → ℕ → List ℕ
cells words zero a = []
cells words (suc n) a = pick (a == 0) [] (a ∷ cells words n (slice_index words a))

-- all of it: a chain that ends has at most one cell more than there are words
abbrev pub chain_of : List ℕ → ℕ → List ℕ
chain_of words a = cells words (length words + 1) a

-- what is left of a chain
abbrev pub links_of : Chain → List ℕ
links_of c = cells c.words.now c.left c.next

-- whether the chain from a on comes to its end in n cells at most
abbrev pub ends_in : List ℕ → ℕ → ℕ → Bool
ends_in words zero a = a == 0
ends_in words (suc n) a = pick (a == 0) true (ends_in words n (slice_index words a))

-- whether it does so at all; else it goes round
abbrev pub ends_at : List ℕ → ℕ → Bool
ends_at words a = ends_in words (length words + 1) a

-- whether what is left of a chain comes to its end
abbrev pub ends : Chain → Bool
ends c = ends_in c.words.now c.left c.next

-- the first of what is left comes, and the others end as before
abbrev pub Follows : Chain → Option ℕ → Chain → Type 0
Follows s r t = YieldsFirst links_of s r t × (ends t ≡ ends s)
