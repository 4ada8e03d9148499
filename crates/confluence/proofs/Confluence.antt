-- Every order of moves that ends comes to what the path of the first process comes to, and a path comes to one end. So all
-- orders of a calm text that end put the same on the paper, with the same status.
use mathlib.Core.Path.{◌∙◌, ◌≡◌, ap, refl, subst, sym}
use mathlib.Core.Logic.{◌⊎◌, inl, inr}
use mathlib.Core.Bool.{Bool, false}
use mathlib.Core.List.{[], ◌++◌, ◌∷◌, List}
use mathlib.Core.Option.{none, some}
use Prim.Native.Nat.{◌<◌, ◌≤◌, ℕ}
use native.Mathlib.Omega.{arith}
use Rattle.syntax.specs.Base.{nth, pick}
use Rattle.syntax.specs.Tree.{and_part, Command, CommandList, literal, no_parts, parameter, piped, Pipeline, single, substitution, Word}
use Rattle.meaning.specs.System.{at_and_or, at_builtin, at_capture, at_command, at_list, at_pipeline, at_redirects, at_status, at_unwind, at_wait, at_words, Control, exit_status, Expansion, find_process, Frame, host_input, host_paper, Process, Purpose, System}
use Rattle.meaning.specs.Words.{with_parts}
use Rattle.meaning.specs.Step.{initial, move, moves, settle, step, step_control, step_expansion, step_pipeline, StepResult}
use Rattle.meaning.specs.Statements.{Confluent}
use Rattle.meaning.proofs.Own.{inside}
use Rattle.meaning.proofs.Core.{no_some, split_moves}
use Rattle.confluence.proofs.Basics.{eqb_no, order}
use Rattle.confluence.proofs.Renaming.{l_list, l_nil, NoSubstitution}
use Rattle.confluence.proofs.Local.{Alike, Local}
use Rattle.confluence.proofs.Restrictions.{OkList, ok_list}
use Rattle.confluence.proofs.Discipline.{At, NotPipeline}
use Rattle.confluence.proofs.Processes.{move_of, no_move, no_processes}
use Rattle.confluence.proofs.Sinks.{on_paper, received}
use Rattle.confluence.proofs.Path.{child, Ends, ends_last, ends_over, ends_step, ends_substitution, kind_of, Leads, one_path, Path, resume, resume_captured}
use Rattle.confluence.proofs.Root.{Active, After, Over, root_step, two_handles, Untouched}
use Rattle.confluence.proofs.Stack.{Capture}
use Rattle.confluence.proofs.Substitution.{new_capture, with_child}
use Rattle.confluence.proofs.States.{Busy, busy_end, busy_member, busy_read, drain_below, drain_step, Draining, levels, Resumed, Running, running_after, running_over, running_pipeline, running_read, running_substitution, State, substitution_kind}

-- the steps of the root: it begins a pipeline, or a $( ), or takes a step by itself
root_control : (b1 : ℕ) (c : Control) (k : List Frame) (a b : ℕ) → At 0 b1 false c k a b
    → ((m : Bool) × (d : Command) × (p : Pipeline) × (c ≡ at_pipeline m (piped d p)))
    ⊎ (((x : Expansion) × (z : Purpose) × (q : Bool) × (l : CommandList) × (rest : Word) × (c ≡ at_words x z)
    × (x.parts ≡ and_part (substitution q l) rest)) ⊎ NotPipeline 0 b1 c)
root_control b1 (at_list l) k a b h = inr (inr tt)
root_control b1 (at_and_or x) k a b h = inr (inr tt)
root_control b1 (at_pipeline n (single d)) k a b h = inr (inr tt)
root_control b1 (at_pipeline n (piped d p)) k a b h = inl (n, d, p, refl)
root_control b1 (at_command d) k a b h = inr (inr tt)
root_control b1 (at_words x z) k a b h = by x.parts refl
  where
    by : (v : Word) → x.parts ≡ v → ((m : Bool) × (d : Command) × (p : Pipeline) × (at_words x z ≡ at_pipeline m (piped d p)))
        ⊎ (((x' : Expansion) × (z' : Purpose) × (q : Bool) × (l : CommandList) × (rest : Word) × (at_words x z ≡ at_words x' z')
        × (x'.parts ≡ and_part (substitution q l) rest)) ⊎ NotPipeline 0 b1 (at_words x z))
    by no_parts e = inr (inr (subst NoSubstitution (sym e) tt))
    by (and_part (literal q bs) r) e = inr (inr (subst NoSubstitution (sym e) tt))
    by (and_part (parameter q n) r) e = inr (inr (subst NoSubstitution (sym e) tt))
    by (and_part (substitution q l) r) e = inr (inl (x, z, q, l, r, refl, e))
root_control b1 (at_redirects ts t) k a b h = inr (inr tt)
root_control b1 (at_builtin u) k a b h = inr (inr tt)
root_control b1 (at_status n) k a b h = inr (inr tt)
root_control b1 (at_unwind t n) k a b h = inr (inr tt)
root_control b1 (at_wait ps) k a b h = inr (inr tt)
root_control b1 (at_capture d bs q x y) k a b h = absurd h

-- F: what the first process's output and status have to be
module _ (F : List ℕ → ℕ → Type 0) where
  -- a move leads to a state from which less is to come, or to the end
  abbrev Progress : System → List Capture → Local → List ℕ → Type 0
  Progress t vs y base = ((us : List Capture) × (z : Local) × (b : List ℕ) × State t us z b × (Ends F (levels us) z b → Ends F (levels vs) y base))
      ⊎ ((t.processes ≡ []) × ((n : ℕ) × (exit_status t.exited 0 ≡ some n) × (F t.paper n → Ends F (levels vs) y base)))

  -- the root exits
  root_over : (s t : System) (vs : List Capture) (y : Local) (base : List ℕ) (st : Running s vs y base) → Over st.root_pid st.sink s y t
      → Untouched st.root_pid st.sink st.active.table s t → Progress t vs y base
  root_over s t [] y base st ov o1 = inr (
    no_processes t.processes none1,
    (
      ov.0,
      subst (λ z. exit_status t.exited z ≡ some ov.0) st.stack.1 ov.4,
      λ f. ends_last F y base ov.0 ov.1 (subst (λ o. F o ov.0) (subst (λ z. received z t ≡ base) st.stack.0 (ov.5
          ∙ st.received_is)) f),
    ),
  )
    where
      none1 : (q : ℕ) → find_process t.processes q ≡ none
      none1 q = by (order q st.root_pid)
        where
          by : (q < st.root_pid) ⊎ ((q ≡ st.root_pid) ⊎ (st.root_pid < q)) → find_process t.processes q ≡ none
          by (inl e) = absurd (omega (arith, e, st.stack.1))
          by (inr (inl e)) = ap (λ z. find_process t.processes z) e ∙ ov.3
          by (inr (inr e)) = o1.finds q (λ z. absurd (omega (arith, z, e))) ∙ st.active.above q e
  root_over s t (v ∷ vs) y base st ov o1 = inl (
    vs,
    resume_captured v.level.local t.files v.level.quoted v.level.expansion
        v.level.purpose (received st.sink s),
    v.level.base,
    inr (inr (running_over s t v vs y base st ov o1)),
    λ e. ends_over F v.level (levels vs) y base ov.0 ov.1 (subst (λ fs. Ends F (levels vs)
        (resume_captured v.level.local fs v.level.quoted v.level.expansion v.level.purpose base) v.level.base) ov.2
        (subst (λ o. Ends F (levels vs) (resume_captured v.level.local t.files v.level.quoted v.level.expansion v.level.purpose o)
        v.level.base) st.received_is e)),
  )

  root_move : (s t : System) (vs : List Capture) (y : Local) (base : List ℕ) (st : Running s vs y base) (a : StepResult)
      → step s st.active.process ≡ some a → settle st.active.process a ≡ t → Progress t vs y base
  root_move s t vs y base st a e se = by (root_control st.stdout_handle st.active.process.control st.active.process.frames
      st.active.process.stdin st.active.process.stdout st.active.disciplined.place)
    where
      w : Process
      w = st.active.process

      own : NotPipeline 0 st.stdout_handle w.control → Progress (settle w a) vs y base
      own np = go (root_step st.root_pid st.sink st.stdout_handle s y st.active a np e)
        where
          go : (After st.root_pid st.sink st.stdout_handle st.active.table s y (settle w a)
              ⊎ Over st.root_pid st.sink s y (settle w a)) × Untouched st.root_pid st.sink st.active.table s (settle w a)
              → Progress (settle w a) vs y base
          go (inl af, o1) = inl (
            vs,
            af.0,
            base ++ af.3.0,
            inl (running_after s (settle w a) vs y base st af o1),
            λ h. ends_step F (levels vs) y af.0 base af.3.0 af.3.2 h,
          )
          go (inr ov, o1) = root_over s (settle w a) vs y base st ov o1

      by : ((m : Bool) × (d : Command) × (p : Pipeline) × (w.control ≡ at_pipeline m (piped d p)))
          ⊎ (((x : Expansion) × (z : Purpose) × (q : Bool) × (l : CommandList) × (rest : Word) × (w.control ≡ at_words x z)
          × (x.parts ≡ and_part (substitution q l) rest)) ⊎ NotPipeline 0 st.stdout_handle w.control) → Progress t vs y base
      by (inl z) =
          let f : step s w ≡ some (step_pipeline s w z.0 (piped z.1 z.2)) = ap (λ d. step_control s w d) z.3 in
          let g : settle w (step_pipeline s w z.0 (piped z.1 z.2)) ≡ t = ap (settle w) (inside (sym f ∙ e)) ∙ se in
          inl (
            vs,
            y,
            base,
            inr (inl (subst (λ u. Busy u vs y base) g (subst (λ b. Busy
                (settle w (step_pipeline s w z.0 (piped z.1 z.2))) vs y b) st.received_is
                (running_pipeline s vs y base st z.0 z.1 z.2 z.3)))),
            λ h. h,
          )
      by (inr (inl z)) =
          let v = new_capture st.root_pid st.sink st.stdout_handle s y w st.active.table z.2 (with_parts z.0 z.4) z.1 in
          let f : step s w ≡ some (step_expansion s w z.0 (and_part (substitution z.2 z.3) z.4) z.1) = ap (λ d. step_control s w d)
          z.5 ∙ ap (λ p. some (step_expansion s w z.0 p z.1)) z.6 in
          let g : with_child s w z.2 z.3 (with_parts z.0 z.4) z.1 ≡ t = ap (settle w) (inside (sym f ∙ e)) ∙ se in
          inl (
            v ∷ vs,
            child y z.3,
            [],
            inl (subst (λ u. Running u (v ∷ vs) (child y z.3) []) g
                (running_substitution s vs y base st z.0 z.1 z.2 z.3 z.4 z.5 z.6)),
            λ h. ends_substitution F (levels vs) y base z.2 z.3 (with_parts z.0 z.4) z.1
                (substitution_kind s vs y base st z.0 z.1 z.2 z.3 z.4 z.5 z.6)
                (subst (λ b. Ends F (record { local = y; base = b; quoted = z.2; expansion = with_parts z.0 z.4; purpose = z.1 } ∷ levels vs)
                (child y z.3) []) st.received_is h),
          )
      by (inr (inr np)) = subst (λ u. Progress u vs y base) se (own np)

  state_move : (s t : System) (vs : List Capture) (y : Local) (base : List ℕ) (q : ℕ) → State s vs y base → move s q ≡ some t → Progress t vs y base
  state_move s t vs y base q (inl st) mv = by (order q st.root_pid)
    where
      by : (q < st.root_pid) ⊎ ((q ≡ st.root_pid) ⊎ (st.root_pid < q)) → Progress t vs y base
      by (inl e) = inl (vs, y, base, inl (running_read s t vs y base q st e mv), λ h. h)
      by (inr (inl e)) = let r = move_of s t st.root_pid st.active.process st.active.found
          (subst (λ z. move s z ≡ some t) e mv) in root_move s t vs y base st r.0 r.1 r.2
      by (inr (inr e)) = absurd (no_move s t q (st.active.above q e) mv)
  state_move s t vs y base q (inr (inl bz)) mv = by (order q bz.root_pid)
    where
      high : (q < bz.first_pid) ⊎ ((q ≡ bz.first_pid) ⊎ (bz.first_pid < q)) → bz.root_pid < q → Progress t vs y base
      high (inl f) e = absurd (no_move s t q (bz.gap q e f) mv)
      high (inr (inl f)) e = inl (vs, y, base, inr (inl (busy_member s t vs y base q bz (omega (arith, f)) mv)), λ h. h)
      high (inr (inr f)) e = inl (vs, y, base, inr (inl (busy_member s t vs y base q bz (omega (arith, f)) mv)), λ h. h)

      back : Resumed t vs y base bz.negated bz.command bz.others → Progress t vs y base
      back z = inl (
        vs,
        resume y bz.negated z.0,
        base ++ z.1,
        inl z.2,
        λ h. ends_step F (levels vs) y (resume y bz.negated z.0) base
            z.1 (λ k r n fs p. subst (λ d. Leads (Path k) y (kind_of y d) (z.1 ++ r) n fs) (sym bz.waits.at_pipeline) (
              z.1,
              r,
              z.0,
              refl,
              z.3,
              p,
            )) h,
      )

      by : (q < bz.root_pid) ⊎ ((q ≡ bz.root_pid) ⊎ (bz.root_pid < q)) → Progress t vs y base
      by (inl e) = inl (vs, y, base, inr (inl (busy_read s t vs y base q bz e mv)), λ h. h)
      by (inr (inl e)) = back (busy_end s t vs y base bz (subst (λ z. move s z ≡ some t) e mv))
      by (inr (inr e)) = high (order q bz.first_pid) e
  state_move s t vs y base q (inr (inr dn)) mv = by (order q dn.capture.pid)
    where
      go : Draining t vs y base ⊎ Running t vs (resume_captured dn.capture.level.local s.files dn.capture.level.quoted
          dn.capture.level.expansion dn.capture.level.purpose dn.total) dn.capture.level.base → Progress t vs y base
      go (inl d) = inl (vs, y, base, inr (inr d), λ h. h)
      go (inr r) = inl (
        vs,
        resume_captured dn.capture.level.local s.files dn.capture.level.quoted dn.capture.level.expansion
            dn.capture.level.purpose dn.total,
        dn.capture.level.base,
        inl r,
        λ h. subst (λ z. Ends F (levels vs) z base) (sym dn.resumes) (subst (λ b. Ends F (levels vs)
            (resume_captured dn.capture.level.local s.files dn.capture.level.quoted dn.capture.level.expansion
            dn.capture.level.purpose dn.total) b) (sym dn.before) h),
      )

      by : (q < dn.capture.pid) ⊎ ((q ≡ dn.capture.pid) ⊎ (dn.capture.pid < q)) → Progress t vs y base
      by (inl e) = inl (vs, y, base, inr (inr (drain_below s t vs y base q dn e mv)), λ h. h)
      by (inr (inl e)) = go (drain_step s t vs y base dn (subst (λ z. move s z ≡ some t) e mv))
      by (inr (inr e)) = absurd (no_move s t q (dn.drain.above q e) mv)

  -- a state has a process
  some_process : (s : System) (vs : List Capture) (y : Local) (base : List ℕ) → State s vs y base → s.processes ≡ [] → ⊥
  some_process s vs y base (inl st) e = no_some (sym (ap (λ ws. find_process ws st.root_pid) e) ∙ st.active.found)
  some_process s vs y base (inr (inl bz)) e = no_some (sym (ap (λ ws. find_process ws bz.root_pid) e) ∙ bz.phase.rooted)
  some_process s vs y base (inr (inr dn)) e = no_some (sym (ap (λ ws. find_process ws dn.capture.pid) e) ∙ dn.drain.capturing.found)

  -- without processes there is no move
  no_more_moves : (ms : List ℕ) (t u : System) → t.processes ≡ [] → moves t ms ≡ some u → t ≡ u
  no_more_moves [] t u e f = inside f
  no_more_moves (q ∷ ms) t u e f = let r = split_moves t u q ms f in absurd (no_move t r.0 q (ap (λ ws. find_process ws q) e) r.1)

  pub run_ends : (ms : List ℕ) (s t : System) (vs : List Capture) (y : Local) (base : List ℕ) → State s vs y base → moves s ms ≡ some t
      → t.processes ≡ [] → ((n : ℕ) → exit_status t.exited 0 ≡ some n → F t.paper n) → Ends F (levels vs) y base
  run_ends [] s t vs y base st e f g = absurd (some_process s vs y base st (ap (λ (z : System). z.processes) (inside e) ∙ f))
  run_ends (q ∷ ms) s t vs y base st e f g = by (state_move s sp.0 vs y base q st sp.1) (λ us z b st2. run_ends ms sp.0 t us z b st2 sp.2 f g)
    where
      sp : (r : System) × (move s q ≡ some r) × (moves r ms ≡ some t)
      sp = split_moves s t q ms e

      by : Progress sp.0 vs y base → ((us : List Capture) (z : Local) (b : List ℕ) → State sp.0 us z b → Ends F (levels us) z b) → Ends F (levels vs) y base
      by (inl p) ih = p.4 (ih p.0 p.1 p.2 p.3)
      by (inr p) ih =
          let u : sp.0 ≡ t = no_more_moves ms sp.0 t p.0 sp.2 in
          p.1.2 (subst (λ (z : System). F z.paper p.1.0) (sym u) (g p.1.0 (subst (λ (z : System). exit_status z.exited 0 ≡ some p.1.0) u p.1.1)))

-- the beginning
abbrev initial_local : CommandList → Local
initial_local l = record {
  system = initial l [] [];
  process = record {
    pid = 0;
    control = at_list l;
    frames = [];
    stdin = 0;
    stdout = 1;
    variables = [];
    functions = [];
    arguments = [];
    status = 0;
    jobs = [];
  };
}

initial_active : (l : CommandList) → OkList false l → Active 0 on_paper 1 (initial l [] []) (initial_local l)
initial_active l ok = record {
  process = (initial_local l).process;
  found = refl;
  above = λ q h. ap
      (λ z. pick z (some (initial_local l).process) none) (eqb_no 0 q (λ e. absurd (omega (arith, e, h))));
  once = (refl, tt);
  disciplined = record { place = (ok, (tt, refl, refl)); functions = refl; jobs = refl };
  table = 0 ∷ 1 ∷ [];
  simulates = record {
    like = record {
      control = l_list;
      frames = l_nil;
      stdin = refl;
      stdout = refl;
      variables = refl;
      functions = refl;
      arguments = refl;
      status = refl;
      jobs = refl;
    };
    agrees = record {
      lengths = refl;
      within = λ a i r. wi a i (two_handles 0 1 a i r);
      once = λ a b i r s. on a b i (two_handles 0 1 a i r) (two_handles 0 1 b i s);
      alike = λ a i r. al a i (two_handles 0 1 a i r);
      files = refl;
    };
  };
  in0 = refl;
  out0 = refl;
  input = refl;
  fresh = λ q h. refl;
  not_exited = refl;
  exists = omega arith;
  sink_low = tt;
  sink_alive = tt;
}
  where
    wi : (a i : ℕ) → ((a ≡ 0) × (i ≡ 0)) ⊎ ((a ≡ 1) × (i ≡ 1)) → i < 2
    wi a i (inl z) = omega (arith, z.1)
    wi a i (inr z) = omega (arith, z.1)

    on : (a b i : ℕ) → ((a ≡ 0) × (i ≡ 0)) ⊎ ((a ≡ 1) × (i ≡ 1)) → ((b ≡ 0) × (i ≡ 0)) ⊎ ((b ≡ 1) × (i ≡ 1)) → a ≡ b
    on a b i (inl z) (inl u) = z.0 ∙ sym u.0
    on a b i (inl z) (inr u) = absurd (omega (arith, z.1, u.1))
    on a b i (inr z) (inl u) = absurd (omega (arith, z.1, u.1))
    on a b i (inr z) (inr u) = z.0 ∙ sym u.0

    al : (a i : ℕ) → ((a ≡ 0) × (i ≡ 0)) ⊎ ((a ≡ 1) × (i ≡ 1)) → Alike host_input host_paper (nth (host_input ∷ host_paper ∷ []) i) (nth (host_input ∷ host_paper ∷ []) a)
    al a i (inl z) = subst (λ n. Alike host_input host_paper (nth (host_input ∷ host_paper ∷ []) i) (nth (host_input ∷ host_paper ∷ []) n))
        (sym z.0) (subst (λ n. Alike host_input host_paper (nth (host_input ∷ host_paper ∷ []) n) (some host_input)) (sym z.1) refl)
    al a i (inr z) = subst (λ n. Alike host_input host_paper (nth (host_input ∷ host_paper ∷ []) i) (nth (host_input ∷ host_paper ∷ []) n))
        (sym z.0) (subst (λ n. Alike host_input host_paper (nth (host_input ∷ host_paper ∷ []) n) (some host_paper)) (sym z.1) refl)

-- an order that ends comes to what the path of the first process comes to
ends_with : (l : CommandList) (a : List ℕ) (s : System) → OkList false l → moves (initial l [] []) a ≡ some s → s.processes ≡ []
    → Ends (λ o n. (s.paper ≡ o) × (exit_status s.exited 0 ≡ some n)) [] (initial_local l) []
ends_with l a s ok e f = run_ends (λ o n. (s.paper ≡ o) × (exit_status s.exited 0 ≡ some n)) a (initial l [] []) s [] (initial_local l) []
    (inl (record {
      root_pid = 0;
      sink = on_paper;
      stdout_handle = 1;
      active = initial_active l ok;
      stack = (refl, refl);
      disjoint = tt;
      known = λ q w g h. absurd (omega (arith, h));
      received_is = refl;
    })) e f (λ n g. (refl, g))

-- calm texts up to stage 4
pub confluent : Confluent 4
confluent l a b s t g c p q y z =
    let ok = ok_list false l g c in
    let u = ends_with l a s ok p y in
    let v = ends_with l b t ok q z in
    let e = one_path u.0 v.0 (initial_local l) u.1 v.1 u.2 v.2 u.3 v.3 u.4 v.4 in
    (u.5.0 ∙ e.0 ∙ sym v.5.0, u.5.1 ∙ ap some e.1 ∙ sym v.5.1)

-- or up to a lower stage
pub confluent_at : (n : ℕ) → n ≤ 4 → Confluent n
confluent_at n h l a b s t g = confluent l a b s t (omega (arith, g, h))
