-- A run of one process, slice by slice.
use Rattle.std.proofs.Common.{◌≡◌, ℕ, zero, suc, ◌+◌, ◌-◌, ◌*◌, ◌/◌, ◌<◌, ◌≤◌, Bool, eqb, List, [], ◌∷◌, ◌++◌, length, get_or, take, drop, set, replicate, Some, None, Ok, Err, Result, sym, refl, ap, ◌∙◌, subst, inl, inr, ⊎_elim, arith}
use mathlib.Core.Option.{Option, some, none}
use Rattle.std.proofs.lemmas.List.{length-append, length-take-le, length-set, get_or-set_same, get_or-set_other, drop-drop, set-get_or, length-replicate}
use Rattle.std.proofs.lemmas.List.Sums.{sum_by-cons}
use Rattle.std.proofs.lemmas.Bool.{cases_lt}
use Rattle.segments.specs.Layout.{need}
use Rattle.syntax.specs.Base.{pick, on_some, nth}
use Rattle.syntax.specs.Tree.{CommandList}
use Rattle.meaning.specs.System.{Control, at_list, Frame, Process, System, find_process}
use Rattle.meaning.specs.Step.{continues, step, settle, move, moves, initial}
use Rattle.meaning.specs.Space.{needs}
use Rattle.machine.specs.declared.process.Process.{Process as Process'}
use Rattle.machine.specs.declared.stretch.Ending.{Ending}
use Rattle.machine.specs.declared.stretch.Ending.TheVariants.{Spent as Spent', Exited as Exited'}
use Rattle.machine.specs.declared.halt.Halt.{Halt}
use Rattle.machine.specs.declared.halt.Halt.TheVariants.{NoRoom, PaperFull, Unsupported}
use Rattle.machine.specs.declared.stretch.Stretch.{Stretch}
use Rattle.machine.specs.Represent.{abstract, r_list}
use Rattle.words.specs.Pushed.{Scarce}
use Rattle.machine.specs.Promises.{size, Tight, tight_now, tight_then}
use Rattle.machine.specs.Room.{own}
use Rattle.machine.specs.Stretches.{Reached, Stands, EndSays, StretchesAs, Onward}
use Rattle.machine.proofs.Rooms.{own_room, refusal_bound}
use Rattle.scheduler.specs.declared.slices.Outcome.{Outcome}
use Rattle.scheduler.specs.declared.slices.End.TheVariants.{Exited, Spent}
use Rattle.scheduler.specs.Lists.{opened}
use Rattle.words.specs.Paper.{OnPaper}
use Rattle.scheduler.specs.Queue.{first, rotated}
use Rattle.scheduler.proofs.Opening.{extent_opened}
use Rattle.scheduler.specs.Outcomes.{at_root, OutcomeSays, Executed, first_rest, as_it_is, running, Going, Goes}

-- moves one after the other
moves_then : (s t u : System) (a b : List ℕ) → moves s a ≡ some t → moves t b ≡ some u → moves s (a ++ b) ≡ some u
moves_then s t u [] b e f = let g : s ≡ t = cc in rw g f
moves_then s t u (x ∷ a) b e f = by (λ v g. moves_then v t u a b g f) (move s x) refl e
  where
    by : ((v : System) → moves v a ≡ some t → moves v (a ++ b) ≡ some u) → (o : Option System) → move s x ≡ o → on_some o (λ v. moves v a) ≡ some t → on_some (move s x) (λ v. moves v (a ++ b)) ≡ some u
    by k none p g = absurd (cc)
    by k (some v) p g = rw p (k v g)

replicate_add : (j k n : ℕ) → replicate (j + k) n ≡ replicate j n ++ replicate k n
replicate_add zero k n = ap (λ z. replicate z n) (omega arith)
replicate_add (suc j) k n = let e : suc j + k ≡ suc (j + k) = omega arith in rw e (ap (λ z. n ∷ z) (replicate_add j k n))

more : (s t u : System) (j k : ℕ) → moves s (replicate j 0) ≡ some t → moves t (replicate k 0) ≡ some u → moves s (replicate (j + k) 0) ≡ some u
more s t u j k e f = ap (moves s) (replicate_add j k 0) ∙ moves_then s t u (replicate j 0) (replicate k 0) e f

-- the process stands in the system
stands : {text code : List ℕ} {live : List Bool} {m : List (List ℕ)} {o₀ o : List ℕ} {place made : ℕ} {p : Process'} {l : CommandList} {i : List ℕ} (g : Going text code live m o₀ o place made p l i) → Stands as_it_is o place p first_rest g.c g.k (running i (abstract as_it_is p first_rest g.c g.k) (take place o))
stands g = record { there = refl; paper = refl; printed = refl; within = g.within }

-- the bytes on the paper
on_paper : (o₀ o : List ℕ) (place : ℕ) → length o ≡ length o₀ → place ≤ length o → drop place o ≡ drop place o₀ → OnPaper o₀ o place (take place o)
on_paper o₀ o place h l e = (length-take-le place o l, refl, e)

behind : (o₀ o o' : List ℕ) (place place' : ℕ) → place ≤ place' → drop place o ≡ drop place o₀ → drop place' o' ≡ drop place' o → drop place' o' ≡ drop place' o₀
behind o₀ o o' place place' h e f =
    let z : place + (place' - place) ≡ place' = omega arith in
    let q : drop place' o ≡ drop place' o₀ = subst (λ n. drop n o ≡ drop n o₀) z (sym (drop-drop (place' - place) place o) ∙ ap (drop (place' - place)) e ∙ drop-drop (place' - place) place o₀) in
    f ∙ q

-- where a stretch has come to
pub reach_going : {text code : List ℕ} {live : List Bool} {m m' : List (List ℕ)} {o₀ o o' : List ℕ} {place place' made moved : ℕ} {p p' : Process'} {l : CommandList} {i : List ℕ} (g : Going text code live m o₀ o place made p l i) → place ≤ place' → Reached text code as_it_is live m m' o o' place' p p' first_rest (running i (abstract as_it_is p first_rest g.c g.k) (take place o)) moved → Going text code live m' o₀ o' place' (made + moved) p' l i
reach_going {o₀ = o₀} {o = o} {o' = o'} {place = place} {place' = place'} {made = made} {moved = moved} {l = l} {i = i} g f z = record { c = z.c; k = z.k; came = more (initial l i []) _ _ made moved g.came z.came; rep = z.rep; base = z.base ∙ g.base; queue = z.kept.others 0 (inl (omega (arith, g.base))) ∙ g.queue; rest = λ j h. z.kept.others j (inr (omega (arith, g.base))) ∙ g.rest j h; long = z.long ∙ g.long; within = z.within; behind = behind o₀ o o' place place' f g.behind z.behind }

-- what a stretch from here says, ended in this way
abbrev Said : {text code : List ℕ} {live : List Bool} {m : List (List ℕ)} {o₀ o : List ℕ} {place made : ℕ} {p : Process'} {l : CommandList} {i : List ℕ} → ℕ → List (List ℕ) → List ℕ → ℕ → Going text code live m o₀ o place made p l i → Stretch → Result Ending Halt → Type 0
Said {text} {code} {live} {m} {o₀} {o} {place} {made} {p} {l} {i} half m' o' most g a e = EndSays text code (half, live) m m' o o' place p most as_it_is first_rest (running i (abstract as_it_is p first_rest g.c g.k) (take place o)) a.process a.place a.moves e

onward : {text code : List ℕ} {live : List Bool} {m : List (List ℕ)} {o₀ o : List ℕ} {place place' made : ℕ} {p : Process'} {l : CommandList} {i : List ℕ} (g : Going text code live m o₀ o place made p l i) → Onward text code live m o place p place' → place ≤ place'
onward g w = w.says as_it_is first_rest g.c g.k _ g.rep (stands g)

said : {text code : List ℕ} {half : ℕ} {live : List Bool} {m m' : List (List ℕ)} {o₀ o o' : List ℕ} {place made most : ℕ} {p : Process'} {l : CommandList} {i : List ℕ} {a : Stretch} (e : Result Ending Halt) → a.ending ≡ e → (g : Going text code live m o₀ o place made p l i) → StretchesAs text code (half, live) m m' o o' place p most a → Said half m' o' most g a e
said {half = half} {m' = m'} {o' = o'} {most = most} {a = a} e q g h = subst (λ e. Said half m' o' most g a e) q (h.says as_it_is first_rest g.c g.k _ g.rep (stands g))

-- a slice whose moves are all made
slice_on : {text code : List ℕ} {live : List Bool} {m m' : List (List ℕ)} {o₀ o o' : List ℕ} {place made most : ℕ} {p : Process'} {l : CommandList} {i : List ℕ} (half : ℕ) (a : Stretch) (g : Going text code live m o₀ o place made p l i) → place ≤ a.place → Said half m' o' most g a (Ok Spent') → Going text code live m' o₀ o' a.place (made + most) a.process l i
slice_on {text} {code} {live} {m} {m'} {o₀} {o} {o'} {place} {made} {most} {p} {l} {i} half a g f z = subst (λ n. Going text code live m' o₀ o' a.place (made + n) a.process l i) z.1 (reach_going g f z.0)

-- the queue goes round
queue_on : {text code : List ℕ} {live : List Bool} {m m' : List (List ℕ)} {o₀ o : List ℕ} {place made : ℕ} {p : Process'} {l : CommandList} {i : List ℕ} → m' ≡ set m 0 (rotated (get_or m 0 [])) → Going text code live m o₀ o place made p l i → Going text code live m' o₀ o place made p l i
queue_on {text} {code} {live} {m} {m'} {o₀} {o} {place} {made} {p} {l} {i} e g =
    let z : m' ≡ m = e ∙ ap (λ q. set m 0 (rotated q)) g.queue ∙ ap (set m 0) (sym g.queue) ∙ set-get_or m 0 [] in
    subst (λ m. Going text code live m o₀ o place made p l i) (sym z) g

-- all moves that were allowed
spent_says : {text code : List ℕ} {live : List Bool} {m : List (List ℕ)} {o₀ o : List ℕ} {place made : ℕ} {p : Process'} {l : CommandList} {i : List ℕ} (words : ℕ) → Going text code live m o₀ o place made p l i → OutcomeSays l i made words o₀ o place (Ok Spent)
spent_says {o₀ = o₀} {o = o} {place = place} {made = made} words g = (replicate made 0, _, g.came, length-replicate made 0, on_paper o₀ o place g.long g.within g.behind)

-- the process has exited
ended_says : {text code : List ℕ} {live : List Bool} {m : List (List ℕ)} {o₀ o o' : List ℕ} {place made : ℕ} {p : Process'} {l : CommandList} {i : List ℕ} (half : ℕ) (m' : List (List ℕ)) (a : Stretch) (most slice words n : ℕ) (g : Going text code live m o₀ o place made p l i) → place ≤ a.place → Said half m' o' slice g a (Ok (Exited' n)) → OutcomeSays l i most words o₀ o' a.place (Ok (Exited n))
ended_says {o₀ = o₀} {o = o} {o' = o'} {place = place} {made = made} {l = l} {i = i} half m' a most slice words n g f z =
    let y = reach_going g f z.1 in
    (replicate (made + a.moves) 0, _, more (initial l i []) _ _ made a.moves g.came z.5, refl, refl, on_paper o₀ o' a.place y.long y.within y.behind)

-- the words in lists are those of the process and one in the queue
need_cons : (x : List ℕ) (m : List (List ℕ)) → need (x ∷ m) ≡ length x + need m
unfolding need
need_cons x m = sum_by-cons length x m

need_none : (m : List (List ℕ)) → ((j : ℕ) → get_or m j [] ≡ []) → need m ≡ 0
unfolding need
need_none [] h = refl
need_none (x ∷ m) h = omega (arith, ap length (h 0), need_cons x m, need_none m (λ j. h (suc j)))

need_five : (m : List (List ℕ)) → ((j : ℕ) → 5 ≤ j → get_or m j [] ≡ []) → need m ≡ length (get_or m 0 []) + own m 1
need_five [] h = need_none [] (λ j. refl)
need_five (x ∷ []) h = omega (arith, need_cons x [], need_none [] (λ j. refl))
need_five (x ∷ x₁ ∷ []) h = omega (arith, need_cons x (x₁ ∷ []), need_cons x₁ [], need_none [] (λ j. refl))
need_five (x ∷ x₁ ∷ x₂ ∷ []) h = omega (arith, need_cons x (x₁ ∷ x₂ ∷ []), need_cons x₁ (x₂ ∷ []), need_cons x₂ [], need_none [] (λ j. refl))
need_five (x ∷ x₁ ∷ x₂ ∷ x₃ ∷ []) h = omega (arith, need_cons x (x₁ ∷ x₂ ∷ x₃ ∷ []), need_cons x₁ (x₂ ∷ x₃ ∷ []), need_cons x₂ (x₃ ∷ []), need_cons x₃ [], need_none [] (λ j. refl))
need_five (x ∷ x₁ ∷ x₂ ∷ x₃ ∷ x₄ ∷ m) h = omega (arith, need_cons x (x₁ ∷ x₂ ∷ x₃ ∷ x₄ ∷ m), need_cons x₁ (x₂ ∷ x₃ ∷ x₄ ∷ m), need_cons x₂ (x₃ ∷ x₄ ∷ m), need_cons x₃ (x₄ ∷ m), need_cons x₄ m, need_none m (λ j. h (suc (suc (suc (suc (suc j))))) (omega arith)))

held : {text code : List ℕ} {live : List Bool} {m : List (List ℕ)} {o₀ o : List ℕ} {place made : ℕ} {p : Process'} {l : CommandList} {i : List ℕ} (g : Going text code live m o₀ o place made p l i) → need m ≤ 1 + size g.c g.k
held {text} {code} {live} {m} {p = p} g = omega (arith, need_five m g.rest, ap length g.queue, subst (λ b. own m b ≤ size g.c g.k) g.base (own_room text code as_it_is live m p first_rest g.c g.k g.rep))

size_needs : (i o : List ℕ) (p : Process') (c : Control) (k : List Frame) → size c k ≤ needs (running i (abstract as_it_is p first_rest c k) o)
size_needs i o p c k = omega arith

-- refused for y words, which are no more than some size that the state needs
bound : (words n y a b z : ℕ) → Scarce (words / 2, opened 5 (words / 2)) (n + y) → n ≤ 1 + a → y ≤ b + 4 → a ≤ z → b ≤ z → words < 65376 + 16 * z
bound words n y a b z s h l f g = omega (arith, refusal_bound words (n + y) (opened 5 (words / 2)) s, extent_opened 5 (words / 2))

one_move : (i o : List ℕ) (w v : Process) (t : System) → step (running i w o) w ≡ some (continues v t) → w.pid ≡ 0 → moves (running i w o) (0 ∷ []) ≡ some (settle w (continues v t))
one_move i o w v t e z =
    let s = running i w o in
    let found : find_process (w ∷ []) 0 ≡ some w = ap (λ n. pick (eqb n 0) (some w) none) z in
    let gone : move s 0 ≡ some (settle w (continues v t)) = ap (λ q. on_some q (λ w. on_some (step s w) (λ o. some (settle w o)))) found ∙ ap (λ q. on_some q (λ o. some (settle w o))) e in
    ap (λ q. on_some q (λ u. some u)) gone

pub tight_says : {text code : List ℕ} {m : List (List ℕ)} {o₀ o : List ℕ} {place made : ℕ} {p : Process'} {l : CommandList} {i : List ℕ} (most words : ℕ) (g : Going text code (opened 5 (words / 2)) m o₀ o place made p l i) → Tight (words / 2, opened 5 (words / 2)) m as_it_is p first_rest g.c g.k → OutcomeSays l i most words o₀ o place (Err NoRoom)
tight_says {m = m} {o₀ = o₀} {o = o} {place = place} {made = made} {p = p} {l = l} {i = i} most words g (tight_now y s h) = (replicate made 0, _, g.came, bound words (need m) y (size g.c g.k) (size g.c g.k) _ s (held g) h (size_needs i (take place o) p g.c g.k) (size_needs i (take place o) p g.c g.k), on_paper o₀ o place g.long g.within g.behind)
tight_says {m = m} {o₀ = o₀} {o = o} {place = place} {made = made} {p = p} {l = l} {i = i} most words g (tight_then y q d h t s e) = ⊎_elim
    (λ (z : size d h < size g.c g.k). (replicate made 0, running i (abstract as_it_is p first_rest g.c g.k) (take place o), g.came, bound words (need m) y (size g.c g.k) (size d h) _ s (held g) (omega arith) (size_needs i (take place o) p g.c g.k) (omega (arith, size_needs i (take place o) p g.c g.k)), on_paper o₀ o place g.long g.within g.behind))
    (λ (z : size g.c g.k ≤ size d h). (replicate made 0 ++ (0 ∷ []), running i (abstract as_it_is q first_rest d h) (take place o), moves_then (initial l i []) _ _ (replicate made 0) (0 ∷ []) g.came (one_move i (take place o) (abstract as_it_is p first_rest g.c g.k) (abstract as_it_is q first_rest d h) _ (t _) refl), bound words (need m) y (size g.c g.k) (size d h) _ s (held g) (omega arith) (omega (arith, size_needs i (take place o) q d h)) (size_needs i (take place o) q d h), on_paper o₀ o place g.long g.within g.behind))
    (cases_lt (size d h) (size g.c g.k))

-- there is no room
no_room_says : {text code : List ℕ} {m : List (List ℕ)} {o₀ o o' : List ℕ} {place made : ℕ} {p : Process'} {l : CommandList} {i : List ℕ} (m' : List (List ℕ)) (a : Stretch) (most slice words : ℕ) (g : Going text code (opened 5 (words / 2)) m o₀ o place made p l i) → place ≤ a.place → Said (words / 2) m' o' slice g a (Err NoRoom) → OutcomeSays l i most words o₀ o' a.place (Err NoRoom)
unfolding reach_going
no_room_says m' a most slice words g f z = tight_says most words (reach_going g f z.1) z.3

-- the paper is full
full_says : {text code : List ℕ} {live : List Bool} {m : List (List ℕ)} {o₀ o o' : List ℕ} {place made : ℕ} {p : Process'} {l : CommandList} {i : List ℕ} (half : ℕ) (m' : List (List ℕ)) (a : Stretch) (most slice words : ℕ) (g : Going text code live m o₀ o place made p l i) → place ≤ a.place → Said half m' o' slice g a (Err PaperFull) → OutcomeSays l i most words o₀ o' a.place (Err PaperFull)
unfolding reach_going
full_says {o₀ = o₀} {o = o} {o' = o'} {made = made} {l = l} {i = i} half m' a most slice words g f z =
    let y = reach_going g f z.0 in
    let w = abstract as_it_is a.process first_rest y.c y.k in
    let s = running i w (take a.place o') in
    let t = z.2.steps_to s (ap (nth s.handles) z.2.output) in
    (replicate (made + a.moves) 0, s, _, 0, y.came, moves_then (initial l i []) _ _ (replicate (made + a.moves) 0) (0 ∷ []) y.came (one_move i (take a.place o') w z.2.w' _ t refl), omega (arith, y.long, z.2.full, length-append (take a.place o') (z.2.byte ∷ []), length-take-le a.place o' y.within), on_paper o₀ o' a.place y.long y.within y.behind)

-- something that the machine does not have
beyond_says : {text code : List ℕ} {live : List Bool} {m : List (List ℕ)} {o₀ o : List ℕ} {place made : ℕ} {p : Process'} {l : CommandList} {i : List ℕ} (half : ℕ) (m' : List (List ℕ)) (o' : List ℕ) (a : Stretch) (most slice words : ℕ) (g : Going text code live m o₀ o place made p l i) → place ≤ a.place → Said half m' o' slice g a (Err Unsupported) → OutcomeSays l i most words o₀ o' a.place (Err Unsupported)
unfolding reach_going
beyond_says {o₀ = o₀} {made = made} half m' o' a most slice words g f z =
    let y = reach_going g f z.1 in
    (replicate (made + a.moves) 0, _, _, y.came, refl, z.3, on_paper o₀ o' a.place y.long y.within y.behind)

-- the same for every list of commands and every input
pub goes_on : {text code : List ℕ} {root half : ℕ} {live : List Bool} {m m' m'' : List (List ℕ)} {o₀ o o' : List ℕ} {place made most : ℕ} {p : Process'} {a : Stretch} → a.ending ≡ Ok Spent' → m'' ≡ set m' 0 (rotated (get_or m' 0 [])) → StretchesAs text code (half, live) m m' o o' place p most a → Onward text code live m o place p a.place → Goes text code root live m o₀ o place made p → Goes text code root live m'' o₀ o' a.place (made + most) a.process
goes_on {half = half} {a = a} e q h f g = record { says = λ l i z. queue_on q (slice_on half a (g.says l i z) (onward (g.says l i z) f) (said (Ok Spent') e (g.says l i z) h)) }

pub spent : {text code : List ℕ} {root : ℕ} {live : List Bool} {m : List (List ℕ)} {o₀ o : List ℕ} {place made : ℕ} {p : Process'} (words most : ℕ) → made ≡ most → Goes text code root live m o₀ o place made p → Executed text code root most words o₀ o (record { printed = place; end = Ok Spent })
spent {text} {code} {root} {o₀ = o₀} {o = o} {place = place} words most e g = subst (λ n. Executed text code root n words o₀ o (record { printed = place; end = Ok Spent })) e (record { says = λ l i z. spent_says words (g.says l i z) })

pub ended : {text code : List ℕ} {root half : ℕ} {live : List Bool} {m m' : List (List ℕ)} {o₀ o o' : List ℕ} {place made slice : ℕ} {p : Process'} {a : Stretch} (most words n : ℕ) → a.ending ≡ Ok (Exited' n) → StretchesAs text code (half, live) m m' o o' place p slice a → Onward text code live m o place p a.place → Goes text code root live m o₀ o place made p → Executed text code root most words o₀ o' (record { printed = a.place; end = Ok (Exited n) })
ended {half = half} {m' = m'} {slice = slice} {a = a} most words n e h f g = record { says = λ l i z. ended_says half m' a most slice words n (g.says l i z) (onward (g.says l i z) f) (said (Ok (Exited' n)) e (g.says l i z) h) }

pub no_room : {text code : List ℕ} {root : ℕ} {m m' : List (List ℕ)} {o₀ o o' : List ℕ} {place made slice : ℕ} {p : Process'} {a : Stretch} (most words : ℕ) → a.ending ≡ Err NoRoom → StretchesAs text code (words / 2, opened 5 (words / 2)) m m' o o' place p slice a → Onward text code (opened 5 (words / 2)) m o place p a.place → Goes text code root (opened 5 (words / 2)) m o₀ o place made p → Executed text code root most words o₀ o' (record { printed = a.place; end = Err NoRoom })
no_room {m' = m'} {slice = slice} {a = a} most words e h f g = record { says = λ l i z. no_room_says m' a most slice words (g.says l i z) (onward (g.says l i z) f) (said (Err NoRoom) e (g.says l i z) h) }

pub full : {text code : List ℕ} {root half : ℕ} {live : List Bool} {m m' : List (List ℕ)} {o₀ o o' : List ℕ} {place made slice : ℕ} {p : Process'} {a : Stretch} (most words : ℕ) → a.ending ≡ Err PaperFull → StretchesAs text code (half, live) m m' o o' place p slice a → Onward text code live m o place p a.place → Goes text code root live m o₀ o place made p → Executed text code root most words o₀ o' (record { printed = a.place; end = Err PaperFull })
full {half = half} {m' = m'} {slice = slice} {a = a} most words e h f g = record { says = λ l i z. full_says half m' a most slice words (g.says l i z) (onward (g.says l i z) f) (said (Err PaperFull) e (g.says l i z) h) }

pub unsupported : {text code : List ℕ} {root half : ℕ} {live : List Bool} {m m' : List (List ℕ)} {o₀ o o' : List ℕ} {place made slice : ℕ} {p : Process'} {a : Stretch} (most words : ℕ) → a.ending ≡ Err Unsupported → StretchesAs text code (half, live) m m' o o' place p slice a → Onward text code live m o place p a.place → Goes text code root live m o₀ o place made p → Executed text code root most words o₀ o' (record { printed = a.place; end = Err Unsupported })
unsupported {half = half} {m' = m'} {o' = o'} {slice = slice} {a = a} most words e h f g = record { says = λ l i z. beyond_says half m' o' a most slice words (g.says l i z) (onward (g.says l i z) f) (said (Err Unsupported) e (g.says l i z) h) }

-- a halt
pub halted : {text code : List ℕ} {root : ℕ} {m m' : List (List ℕ)} {o₀ o o' : List ℕ} {place made slice : ℕ} {p : Process'} {a : Stretch} (halt : Halt) (most words : ℕ) → a.ending ≡ Err halt → StretchesAs text code (words / 2, opened 5 (words / 2)) m m' o o' place p slice a → Onward text code (opened 5 (words / 2)) m o place p a.place → Goes text code root (opened 5 (words / 2)) m o₀ o place made p → Executed text code root most words o₀ o' (record { printed = a.place; end = Err halt })
halted NoRoom most words e h f g = no_room most words e h f g
halted PaperFull most words e h f g = full most words e h f g
halted Unsupported most words e h f g = unsupported most words e h f g

-- the queue is not empty
pub never_still : {text code : List ℕ} {root : ℕ} {live : List Bool} {m : List (List ℕ)} {o₀ o : List ℕ} {place made : ℕ} {p : Process'} {r : Outcome} (most words : ℕ) → None ≡ first (get_or m 0 []) → Goes text code root live m o₀ o place made p → Executed text code root most words o₀ o r
never_still most words e g = record { says = λ l i z. absurd (let q : None ≡ Some 0 = e ∙ ap first (g.says l i z).queue in (cc)) }

-- the beginning
nothing : (n j : ℕ) → ◌≡◌ {A = List ℕ} (get_or (replicate n []) j []) []
nothing zero j = refl
nothing (suc n) zero = refl
nothing (suc n) (suc j) = nothing n j

pub begins : (text code : List ℕ) (root half : ℕ) (m : List (List ℕ)) (o : List ℕ) → 5 ≤ half → m ≡ set (replicate half []) 0 (0 ∷ []) → Goes text code root (opened 5 half) m o o 0 0 (at_root root)
begins text code root half m o h e = record { says = λ l i coded. record { c = at_list l; k = []; came = refl; rep = record { lists = record { frames = []; words = []; text = []; line = [] }; has = record { inside = omega (arith, ap length e, length-set {A = List ℕ} (replicate half []) 0 (0 ∷ []), length-replicate {A = List ℕ} half []); live0 = refl; live1 = refl; live2 = refl; live3 = refl; frames = empty 1 (omega arith); words = empty 2 (omega arith); text = empty 3 (omega arith); line = empty 4 (omega arith) }; control = r_list refl refl refl coded; frames = refl; status = omega arith; functions = refl }; base = refl; queue = ap (λ m. get_or m 0 []) e ∙ get_or-set_same {A = List ℕ} (replicate half []) 0 (0 ∷ []) [] (omega (arith, length-replicate {A = List ℕ} half [])); rest = λ j l. empty j (omega arith); long = refl; within = omega arith; behind = refl } }
  where
    empty : (j : ℕ) → 0 < j → get_or m j [] ≡ []
    empty j l = ap (λ m. get_or m j []) e ∙ get_or-set_other {A = List ℕ} (replicate half []) 0 j (0 ∷ []) [] (omega arith) ∙ nothing half j

-- no room at the beginning
pub short : (text code : List ℕ) (root most words : ℕ) (o : List ℕ) → words < 65376 → Executed text code root most words o o (record { printed = 0; end = Err NoRoom })
short text code root most words o h = record { says = λ l i z. ([], initial l i [], refl, omega arith, (refl, refl, refl)) }
