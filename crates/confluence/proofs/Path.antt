-- What a process comes to, when a pipeline and a $( ) are one step each: a path of local steps. A path comes to one end, with
-- one output, one status and one set of files.
use mathlib.Core.Path.{◌∙◌, ◌≡◌, ap, refl, subst, sym}
use mathlib.Core.Logic.{inl}
use mathlib.Core.Bool.{Bool, true}
use mathlib.Core.List.{[], ◌++◌, ◌∷◌, List}
use mathlib.Core.Option.{none}
use Prim.Native.Nat.{◌+◌, suc, zero, ℕ}
use native.Mathlib.Omega.{arith}
use Rattle.syntax.specs.Base.{pick}
use Rattle.syntax.specs.Tree.{and_part, Command, CommandList, literal, no_parts, parameter, piped, Pipeline, single, substitution, Word}
use Rattle.meaning.specs.System.{at_and_or, at_builtin, at_capture, at_command, at_list, at_pipeline, at_redirects, at_status, at_unwind, at_wait, at_words, Control, Expansion, f_not, File, Frame, host_input, host_paper, Purpose, with_files}
use Rattle.meaning.specs.Words.{insert_value, with_parts}
use Rattle.meaning.specs.Step.{pipeline_length, trim, with_control}
use Rattle.confluence.proofs.Basics.{app_assoc, app_nil}
use Rattle.confluence.proofs.Chain.{Action, finished, reading, Row, same_output, silent, writing}
use Rattle.confluence.proofs.Local.{Local, local_step}

abbrev pub member_command : Pipeline → ℕ → Command
member_command (single c) j = c
member_command (piped c p) zero = c
member_command (piped c p) (suc j) = member_command p j

abbrev pub member_start : Local → Command → Local
member_start y c = record {
  system = record {
    processes = [];
    next_pid = 0;
    handles = host_input ∷ host_paper ∷ [];
    pipes = [];
    files = y.system.files;
    input = [];
    paper = [];
    exited = [];
  };
  process = record {
    pid = 0;
    control = at_command c;
    frames = [];
    stdin = 0;
    stdout = 1;
    variables = y.process.variables;
    functions = y.process.functions;
    arguments = y.process.arguments;
    status = y.process.status;
    jobs = [];
  };
}

abbrev pub with_not : Bool → List Frame → List Frame
with_not m k = pick m (f_not ∷ k) k

abbrev pub resume : Local → Bool → ℕ → Local
resume y m n = record { system = y.system; process = with_control y.process (at_status n) (with_not m y.process.frames) }

abbrev pub list_from : (ℕ → Local) → ℕ → ℕ → List Local
list_from f j zero = []
list_from f j (suc k) = f j ∷ list_from f (suc j) k

abbrev pub member_starts : Local → Command → Pipeline → ℕ → Local
member_starts y c p j = member_start y (member_command (piped c p) j)

-- how the process of a $( ) begins, and how its parent goes on with what was captured and the files as they are then
abbrev pub child : Local → CommandList → Local
child y l = record {
  system = record {
    processes = [];
    next_pid = 0;
    handles = host_input ∷ host_paper ∷ [];
    pipes = [];
    files = y.system.files;
    input = [];
    paper = [];
    exited = [];
  };
  process = record {
    pid = 0;
    control = at_list l;
    frames = [];
    stdin = 0;
    stdout = 1;
    variables = y.process.variables;
    functions = y.process.functions;
    arguments = y.process.arguments;
    status = y.process.status;
    jobs = [];
  };
}

abbrev pub resume_captured : Local → List File → Bool → Expansion → Purpose → List ℕ → Local
resume_captured y fs q x z a = record { system = with_files y.system fs; process = with_control y.process (at_words (insert_value x q (trim a)) z) y.process.frames }

pub data Kind : Type 0 where
  one_step : Action Local → Kind
  one_pipeline : Bool → Command → Pipeline → Kind
  one_substitution : Bool → CommandList → Expansion → Purpose → Kind

abbrev pub kind_of_word : Local → Expansion → Purpose → Word → Kind
kind_of_word y x z no_parts = one_step (local_step y)
kind_of_word y x z (and_part (literal q b) r) = one_step (local_step y)
kind_of_word y x z (and_part (parameter q n) r) = one_step (local_step y)
kind_of_word y x z (and_part (substitution q l) r) = one_substitution q l (with_parts x r) z

abbrev pub kind_of : Local → Control → Kind
kind_of y (at_list l) = one_step (local_step y)
kind_of y (at_and_or a) = one_step (local_step y)
kind_of y (at_pipeline n (single c)) = one_step (local_step y)
kind_of y (at_pipeline n (piped c p)) = one_pipeline n c p
kind_of y (at_command c) = one_step (local_step y)
kind_of y (at_words x z) = kind_of_word y x z x.parts
kind_of y (at_redirects ts t) = one_step (local_step y)
kind_of y (at_builtin u) = one_step (local_step y)
kind_of y (at_status n) = one_step (local_step y)
kind_of y (at_unwind t n) = one_step (local_step y)
kind_of y (at_wait ps) = one_step (local_step y)
kind_of y (at_capture d bs q x z) = one_step (local_step y)

abbrev pub Leads : (Local → List ℕ → ℕ → List File → Type 0) → Local → Kind → List ℕ → ℕ → List File → Type 0
Leads R y (one_step (silent z)) o n fs = R z o n fs
Leads R y (one_step (reading h)) o n fs = R (h none) o n fs
Leads R y (one_step (writing b z)) o n fs = (r : List ℕ) × (o ≡ b ∷ r) × R z r n fs
Leads R y (one_step (finished m)) o n fs = (o ≡ []) × (n ≡ m) × (fs ≡ y.system.files)
Leads R y (one_pipeline m c p) o n fs = (a : List ℕ) × (b : List ℕ) × (i : ℕ) × (o ≡ a ++ b)
    × Row Local local_step (member_starts y c p 0) (list_from (member_starts y c p) 1 (pipeline_length p)) [] true a i × R (resume y m i) b n fs
Leads R y (one_substitution q l x z) o n fs = (a : List ℕ) × (m : ℕ) × (gs : List File) × R (child y l) a m gs × R (resume_captured y gs q x z a) o n fs

abbrev pub Path : ℕ → Local → List ℕ → ℕ → List File → Type 0
Path zero y o n fs = ⊥
Path (suc k) y o n fs = Leads (Path k) y (kind_of y y.process.control) o n fs

pub one_path : (k l : ℕ) (y : Local) (o o' : List ℕ) (n n' : ℕ) (fs fs' : List File) → Path k y o n fs → Path l y o' n' fs' → (o ≡ o') × (n ≡ n') × (fs ≡ fs')
one_path zero l y o o' n n' fs fs' p q = absurd p
one_path (suc k) zero y o o' n n' fs fs' p q = absurd q
one_path (suc k) (suc l) y o o' n n' fs fs' p q = by (λ z o o' n n' f f' a b. one_path k l z o o' n n' f f' a b) (kind_of y y.process.control) p q
  where
    by : ((z : Local) (o o' : List ℕ) (n n' : ℕ) (f f' : List File) → Path k z o n f → Path l z o' n' f' → (o ≡ o') × (n ≡ n') × (f ≡ f'))
        → (d : Kind) → Leads (Path k) y d o n fs → Leads (Path l) y d o' n' fs' → (o ≡ o') × (n ≡ n') × (fs ≡ fs')
    by ih (one_step (silent z)) p q = ih z o o' n n' fs fs' p q
    by ih (one_step (reading h)) p q = ih (h none) o o' n n' fs fs' p q
    by ih (one_step (writing b z)) p q = let e = ih z p.0 q.0 n n' fs fs' p.2 q.2 in (p.1 ∙ ap (λ r. b ∷ r) e.0 ∙ sym q.1, e.1, e.2)
    by ih (one_step (finished m)) p q = (p.0 ∙ sym q.0, p.1 ∙ sym q.1, p.2 ∙ sym q.2)
    by ih (one_pipeline m c r) p q =
        let e = same_output Local local_step (list_from (member_starts y c r) 1 (pipeline_length r)) (member_starts y c r 0) [] [] true true p.0
        q.0 p.2 q.2 p.4 q.4 (inl tt, λ h. tt, λ h. tt) in
        let d = ih (resume y m p.2) p.1 q.1 n n' fs fs' p.5 (subst (λ i. Path l (resume y m i) q.1 n' fs') (sym e.1) q.5) in
        (p.3 ∙ (λ i. e.0 i ++ d.0 i) ∙ sym q.3, d.1, d.2)
    by ih (one_substitution r t x z) p q =
        let e = ih (child y t) p.0 q.0 p.1 q.1 p.2 q.2 p.3 q.3 in
        ih (resume_captured y p.2 r x z p.0) o o' n n' fs fs' p.4 (subst (λ a. Path l (resume_captured y p.2 r x z a) o' n' fs')
        (sym e.0) (subst (λ g. Path l (resume_captured y g r x z q.0) o' n' fs') (sym e.2) q.4))

-- a longer bound
pub leads_more : (R S : Local → List ℕ → ℕ → List File → Type 0) → ((y : Local) (o : List ℕ) (n : ℕ) (fs : List File) → R y o n fs → S y o n fs)
    → (y : Local) (d : Kind) (o : List ℕ) (n : ℕ) (fs : List File) → Leads R y d o n fs → Leads S y d o n fs
leads_more R S g y (one_step (silent z)) o n fs p = g z o n fs p
leads_more R S g y (one_step (reading h)) o n fs p = g (h none) o n fs p
leads_more R S g y (one_step (writing b z)) o n fs p = (p.0, p.1, g z p.0 n fs p.2)
leads_more R S g y (one_step (finished m)) o n fs p = p
leads_more R S g y (one_pipeline m c r) o n fs p = (p.0, p.1, p.2, p.3, p.4, g (resume y m p.2) p.1 n fs p.5)
leads_more R S g y (one_substitution q l x z) o n fs p = (p.0, p.1, p.2, g (child y l) p.0 p.1 p.2 p.3, g (resume_captured y p.2 q x z p.0) o n fs p.4)

pub path_more : (k j : ℕ) (y : Local) (o : List ℕ) (n : ℕ) (fs : List File) → Path k y o n fs → Path (k + j) y o n fs
path_more zero j y o n fs p = absurd p
path_more (suc k) j y o n fs p = subst (λ m. Path m y o n fs) (let e : suc (k + j) ≡ suc k + j = omega arith in e)
    (leads_more (Path k) (Path (k + j)) (λ z r m gs q. path_more k j z r m gs q) y (kind_of y y.process.control) o n fs p)

path_more_left : (k j : ℕ) (y : Local) (o : List ℕ) (n : ℕ) (fs : List File) → Path k y o n fs → Path (j + k) y o n fs
path_more_left k j y o n fs p = subst (λ m. Path m y o n fs) (omega arith) (path_more k j y o n fs p)

-- a $( ) as one step
pub path_substitution : (k j : ℕ) (y : Local) (q : Bool) (l : CommandList) (x : Expansion) (z : Purpose) (a o : List ℕ) (m n : ℕ) (gs fs : List File)
    → kind_of y y.process.control ≡ one_substitution q l x z → Path k (child y l) a m gs → Path j (resume_captured y gs q x z a) o n fs
    → Path (suc (k + j)) y o n fs
path_substitution k j y q l x z a o m n gs fs e p r = subst (λ d. Leads (Path (k + j)) y d o n fs) (sym e) (
  a,
  m,
  gs,
  path_more k j (child y l) a m gs p,
  path_more_left j k (resume_captured y gs q x z a) o n fs r,
)

-- a process that captures: what it has put out so far, and how its word goes on
pub record Level : Type 0 where
  pub local : Local
  pub base : List ℕ
  pub quoted : Bool
  pub expansion : Expansion
  pub purpose : Purpose

-- what is to come: the root comes to an end, then the one below goes on with what was captured; the last is the first process,
-- whose output and status have to be as F says
abbrev pub Ends : (List ℕ → ℕ → Type 0) → List Level → Local → List ℕ → Type 0
Ends F [] y base = (k : ℕ) × (o : List ℕ) × (n : ℕ) × (fs : List File) × Path k y o n fs × F (base ++ o) n
Ends F (v ∷ vs) y base = (k : ℕ) × (o : List ℕ) × (n : ℕ) × (fs : List File) × Path k y o n fs
    × Ends F vs (resume_captured v.local fs v.quoted v.expansion v.purpose (base ++ o)) v.base

pub ends_step : (F : List ℕ → ℕ → Type 0) (vs : List Level) (y y' : Local) (base o : List ℕ)
    → ((k : ℕ) (r : List ℕ) (n : ℕ) (fs : List File) → Path k y' r n fs → Path (suc k) y (o ++ r) n fs) → Ends F vs y' (base ++ o) → Ends F vs y base
ends_step F [] y y' base o g h = (suc h.0, o ++ h.1, h.2, h.3, g h.0 h.1 h.2 h.3 h.4, subst (λ z. F z h.2) (app_assoc base o h.1) h.5)
ends_step F (v ∷ vs) y y' base o g h = (
  suc h.0,
  o ++ h.1,
  h.2,
  h.3,
  g h.0 h.1 h.2 h.3 h.4,
  subst (λ a. Ends F vs (resume_captured v.local h.3 v.quoted v.expansion v.purpose a) v.base) (app_assoc base o h.1) h.5,
)

-- a $( ) begins
pub ends_substitution : (F : List ℕ → ℕ → Type 0) (vs : List Level) (y : Local) (base : List ℕ) (q : Bool) (l : CommandList) (x : Expansion)
    (z : Purpose) → kind_of y y.process.control ≡ one_substitution q l x z → Ends F
    (record { local = y; base = base; quoted = q; expansion = x; purpose = z } ∷ vs) (child y l) [] → Ends F vs y base
ends_substitution F [] y base q l x z e h = let t = h.5 in (
  suc (h.0 + t.0),
  t.1,
  t.2,
  t.3,
  path_substitution h.0 t.0 y q l x z h.1 t.1 h.2 t.2 h.3 t.3 e h.4 t.4,
  t.5,
)
ends_substitution F (v ∷ vs) y base q l x z e h = let t = h.5 in (
  suc (h.0 + t.0),
  t.1,
  t.2,
  t.3,
  path_substitution h.0 t.0 y q l x z h.1 t.1 h.2 t.2 h.3 t.3 e h.4 t.4,
  t.5,
)

-- the root has exited
pub ends_over : (F : List ℕ → ℕ → Type 0) (v : Level) (vs : List Level) (y : Local) (base : List ℕ) (n : ℕ)
    → kind_of y y.process.control ≡ one_step (finished n) → Ends F vs (resume_captured v.local y.system.files v.quoted v.expansion
    v.purpose base) v.base → Ends F (v ∷ vs) y base
ends_over F v vs y base n e h = (
  1,
  [],
  n,
  y.system.files,
  subst (λ d. Leads (Path 0) y d [] n y.system.files) (sym e) (refl, refl, refl),
  subst (λ a. Ends F vs (resume_captured v.local y.system.files v.quoted v.expansion v.purpose a) v.base) (sym (app_nil base)) h,
)

pub ends_last : (F : List ℕ → ℕ → Type 0) (y : Local) (base : List ℕ) (n : ℕ) → kind_of y y.process.control ≡ one_step (finished n) → F base n → Ends F [] y base
ends_last F y base n e h = (
  1,
  [],
  n,
  y.system.files,
  subst (λ d. Leads (Path 0) y d [] n y.system.files) (sym e) (refl, refl, refl),
  subst (λ a. F a n) (sym (app_nil base)) h,
)
