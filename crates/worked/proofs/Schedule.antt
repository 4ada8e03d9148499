-- Orders that always move the newest or the oldest process that is enabled, and where they lead.
use mathlib.Core.Path.{◌≡◌, refl, ap}
use mathlib.Core.List.{List, [], ◌∷◌}
use mathlib.Core.Option.{Option, some, none}
use Prim.Native.Nat.{ℕ, zero, suc}
use lib.ListN.{length}
use lib.Dec.{leb, T, leb→le}
use Rattle.syntax.specs.Base.{pick, opt, nth}
use Rattle.syntax.specs.Tree.{CommandList}
use Rattle.grammar.specs.Tokens.{tokens, start}
use Rattle.grammar.specs.Grammar.{Parses}
use Rattle.grammar.specs.Parser.{parse}
use Rattle.grammar.proofs.Both.{parser_agrees, not_none}
use Rattle.meaning.specs.System.{Process, System, exit_status, find_process}
use Rattle.meaning.specs.Step.{enabled, step, move, moves, initial}
use Rattle.worked.specs.Examples.{Gives, Fills}

-- who moves next, if anybody does
abbrev pub Policy : Type 0
Policy = System → Option ℕ

-- the newest process that is enabled
abbrev pub newest_of : System → List Process → Option ℕ
newest_of s [] = none
newest_of s (w ∷ ws) = opt (newest_of s ws) (pick (enabled s w) (some w.pid) none) some

abbrev pub newest : Policy
newest s = newest_of s s.processes

-- the oldest
abbrev pub oldest_of : System → List Process → Option ℕ
oldest_of s [] = none
oldest_of s (w ∷ ws) =
    let r = oldest_of s ws in
    pick (enabled s w) (some w.pid) r

abbrev pub oldest : Policy
oldest s = oldest_of s s.processes

abbrev pub moved : System → Option ℕ → Option System
moved s none = none
moved s (some q) = move s q

-- where at most n moves lead
abbrev pub last : Policy → ℕ → System → System
last f zero s = s
last f (suc n) s = opt (moved s (f s)) s (λ t. last f n t)

abbrev pub mover : Option ℕ → ℕ
mover none = 0
mover (some q) = q

-- the moves that lead there
pub order : Policy → ℕ → System → List ℕ
order f zero s = []
order f (suc n) s = opt (moved s (f s)) [] (λ t. mover (f s) ∷ order f n t)

pub scheduled : (f : Policy) (n : ℕ) (s : System) → moves s (order f n s) ≡ some (last f n s)
unfolding order
scheduled f zero s = refl
scheduled f (suc n) s = by (f s) (moved s (f s)) refl (λ t. scheduled f n t)
  where
    by : (o : Option ℕ) (u : Option System) → moved s o ≡ u → ((t : System) → moves t (order f n t) ≡ some (last f n t)) → moves s (opt u [] (λ t. mover o ∷ order f n t)) ≡ some (opt u s (λ t. last f n t))
    by o none e h = refl
    by none (some t) e h = absurd (not_none e)
    by (some q) (some t) e h = rw e (h t)

pub record Seen : Type 0 where
  pub left : List Process
  pub paper : List ℕ
  pub status : Option ℕ

abbrev pub seen : System → Seen
seen s = record { left = s.processes; paper = s.paper; status = exit_status s.exited 0 }

parsed_as : (t : List ℕ) (l : CommandList) → T (leb (length t) 16384) → parse (tokens start t) ≡ some l → Parses t l
parsed_as t l h e = (parser_agrees t l (leb→le (length t) 16384 h)).1 e

-- a text that parses to l, and from which n moves of the newest lead to an end
pub gives : (n : ℕ) (t p : List ℕ) (k : ℕ) (l : CommandList) → T (leb (length t) 16384) → parse (tokens start t) ≡ some l → seen (last newest n (initial l [] [])) ≡ record { left = []; paper = p; status = some k } → Gives t p k
gives n t p k l h e g = record { list = l; parsed = parsed_as t l h e; order = order newest n (initial l [] []); last = last newest n (initial l [] []); comes = scheduled newest n (initial l [] []); over = ap (λ x. x.left) g; paper = ap (λ x. x.paper) g; status = ap (λ x. x.status) g }

-- a text of which n moves of the oldest lead to where q waits
pub fills : (n : ℕ) (t : List ℕ) (q m : ℕ) (l : CommandList) → T (leb (length t) 16384) → parse (tokens start t) ≡ some l → (let s = last oldest n (initial l [] []) in (opt (find_process s.processes q) none (step s) ≡ none) × (opt (nth s.pipes 0) 0 length ≡ m)) → Fills t q m
fills n t q m l h e g = record { list = l; parsed = parsed_as t l h e; order = order oldest n (initial l [] []); last = last oldest n (initial l [] []); comes = scheduled oldest n (initial l [] []); waits = g.0; bytes = g.1 }
