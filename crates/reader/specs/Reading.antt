-- What a parsing function makes: a tree, where it ends, its code and its stage.
use Rattle.std.specs.Prelude.{◌≡◌, ℕ, zero, suc, ◌+◌, ◌-◌, ◌*◌, ◌<◌, ◌≤◌, max, Bool, true, false, ◌&&◌, ◌||◌, ◌≢◌, ◌⊎◌, List, [], ◌∷◌, length, take, drop, ◌==◌, nat_le, slice_index, slice_index_or, MatchOption}
use Rattle.std.specs.declared.option.Option.{Option}
use Rattle.std.specs.declared.option.Option.TheVariants.{Some, None}
use Rattle.std.proofs.Math.Option.{some}
use Rattle.syntax.specs.Base.{pick, on_some}
use Rattle.syntax.specs.Tree.{WordPart, Word, Words, Assignments, Redirects, Command, ElsePart, Arms, Pipeline, AndOr, CommandList}
use Rattle.syntax.specs.Stage.{positional, has_wildcard, part_stage, word_stage, words_stage, assignments_stage, redirects_stage, command_stage, else_stage, arms_stage, pipeline_stage, and_or_stage, list_stage}
use Rattle.grammar.specs.Grammar.{put_before}
use Rattle.grammar.specs.Parser.{Parsed, level, parse_part, parse_more, parse_word, parse_words, parse_assignments, parse_redirects, parse_arms, parse_pipeline, parse_negatable, parse_and_or, Lookahead, la_end, la_odd, la_part, Entry, keyword_table, sign_table}
use Rattle.code.specs.declared.tags.PartTag.{PartTag}
use Rattle.code.specs.declared.tags.RedirectTag.{RedirectTag}
pub use Rattle.lexer.specs.Codes.{joins}
use Rattle.lexer.specs.Codes.{part_code, redirect_code}
use Rattle.lexer.specs.Stored.{tokens_from}
use Rattle.code.specs.Layout.{flag, PartAt, PartsAt, WordsAt, AssignmentsAt, RedirectsAt, CommandAt, ElseAt, ArmsAt, PipelineAt, AndOrAt, ListAt}

-- the tag of a part, from its token's code; 4: no part
abbrev pub low_tag : ℕ → ℕ
low_tag k = pick (k == 7) 4 k

abbrev pub part_tag : ℕ → ℕ
part_tag k = pick (nat_le 64 k) 0 (pick (k == 46) 0 (pick (nat_le 32 k) 4 (pick (nat_le 16 k) 0 (pick (nat_le 8 k) (low_tag (k - 8)) (low_tag k)))))

-- the same from the part itself
abbrev pub tag_of : Option PartTag → ℕ
tag_of None = 4
tag_of (Some p) = part_code p

-- the stage of a part with the tag k, 0 to 3, and the bytes b
abbrev pub tag_stage : ℕ → List ℕ → ℕ
tag_stage zero b = pick (has_wildcard b) 4 0
tag_stage (suc zero) b = 0
tag_stage (suc (suc k)) b = pick (positional b) 3 0

-- signs and the end are no words
abbrev pub ends_words : ℕ → Bool
ends_words k = k == 47 || (nat_le 32 k && nat_le k 44)

-- whether a word may be a command's first: its first token has the code k, and the next token is joined or not
abbrev pub may_be_first : ℕ → Bool → Bool
may_be_first k g = pick (nat_le 64 k) false (pick (nat_le 16 k && nat_le k 31) g true)

-- valid names: also the keywords that are spelled with letters
abbrev pub names : ℕ → Bool
names k = k == 46 || (nat_le 16 k && nat_le k 28)

-- bare tokens, of whichever spelling
abbrev pub bare : ℕ → Bool
bare k = k == 0 || (k == 8 || ((nat_le 16 k && nat_le k 31) || (k == 46 || nat_le 64 k)))

abbrev pub nth_lookahead : ℕ → List Entry → Lookahead → Lookahead
nth_lookahead j [] d = d
nth_lookahead zero (e ∷ es) d = e.means
nth_lookahead (suc j) (e ∷ es) d = nth_lookahead j es d

-- what stands there, by the token's code and whether the next one is joined
abbrev pub lookahead_by : ℕ → Bool → Lookahead
lookahead_by k g = pick (k == 47) la_end (pick (nat_le 46 k) la_part (pick (nat_le 32 k) (nth_lookahead (k - 32) sign_table la_odd) (pick (nat_le 16 k) (pick g la_part (nth_lookahead (k - 16) keyword_table la_part)) (pick (nat_le 7 k) la_odd la_part))))

-- from token i to token j, from the free word top to the free word free, from the stage s0 to the stage s: a tree as the
-- parser has it, its code, all words below top as they were but the link, and at most 16 words a token and 16 - e more
pub record Made (A : Type 0) (St : A → ℕ) (X : Parsed A) (At : A → ℕ → List ℕ → Type 0) (t : List ℕ) (n i : ℕ) (w0 w : List ℕ) (top link e j free s0 s : ℕ) : Type 0 where
  pub tree : A
  pub is : X ≡ some (tree, tokens_from t j)
  pub coded : At tree free w
  pub staged : s ≡ max s0 (St tree)
  pub kept : (k : ℕ) → k < top → k ≢ link → slice_index w k ≡ slice_index w0 k
  pub goes : i ≤ j
  pub within : j ≤ n
  pub above : top ≤ free
  pub fits : free ≤ length w
  pub room : free + (16 * i + e) ≤ top + (16 * j + 16)

abbrev pub GotPart : List ℕ → ℕ → ℕ → ℕ → List ℕ → List ℕ → ℕ → ℕ → ℕ → ℕ → ℕ → Type 0
GotPart t n i d w0 w top j free s0 s = Made WordPart part_stage (parse_part (level d) (tokens_from t i)) (λ x hi m. PartAt t x top hi m × (top + 4 ≤ hi)) t n i w0 w top top 28 j free s0 s

abbrev pub GotMore : List ℕ → ℕ → ℕ → ℕ → List ℕ → List ℕ → ℕ → ℕ → ℕ → ℕ → ℕ → ℕ → Type 0
GotMore t n i d w0 w top link j free s0 s = Made Word word_stage (parse_more (level d) (tokens_from t i)) (λ x hi m. PartsAt t x top hi m link) t n i w0 w top link 16 j free s0 s

abbrev pub GotWord : List ℕ → ℕ → ℕ → ℕ → List ℕ → List ℕ → ℕ → ℕ → ℕ → ℕ → ℕ → ℕ → Type 0
GotWord t n i d w0 w top link j free s0 s = Made Word word_stage (parse_word (level d) (tokens_from t i)) (λ x hi m. PartsAt t x top hi m link) t n i w0 w top link 28 j free s0 s

abbrev pub GotWords : List ℕ → ℕ → ℕ → ℕ → List ℕ → List ℕ → ℕ → ℕ → ℕ → ℕ → ℕ → ℕ → Type 0
GotWords t n i d w0 w top link j free s0 s = Made Words words_stage (parse_words (level d) (tokens_from t i)) (λ x hi m. WordsAt t x top hi m link) t n i w0 w top link 16 j free s0 s

abbrev pub GotRedirects : List ℕ → ℕ → ℕ → ℕ → List ℕ → List ℕ → ℕ → ℕ → ℕ → ℕ → ℕ → ℕ → Type 0
GotRedirects t n i d w0 w top link j free s0 s = Made Redirects redirects_stage (parse_redirects (level d) (tokens_from t i)) (λ x hi m. RedirectsAt t x top hi m link) t n i w0 w top link 16 j free s0 s

-- what stands behind the = of an assignment: l bytes from s on, and the parts joined to them
abbrev pub value_of : List ℕ → ℕ → ℕ → ℕ → ℕ → Parsed Word
value_of t d i s l = on_some (parse_more (level d) (tokens_from t i)) (λ x. some (put_before (take l (drop s t)) x.0, x.1))

abbrev pub GotValue : List ℕ → ℕ → ℕ → ℕ → ℕ → ℕ → List ℕ → List ℕ → ℕ → ℕ → ℕ → ℕ → ℕ → ℕ → Type 0
GotValue t n i d b l w0 w top link j free s0 s = Made Word word_stage (value_of t d i b l) (λ x hi m. PartsAt t x top hi m link) t n i w0 w top link 12 j free s0 s

abbrev pub GotAssignments : List ℕ → ℕ → ℕ → ℕ → List ℕ → List ℕ → ℕ → ℕ → ℕ → ℕ → ℕ → ℕ → Type 0
GotAssignments t n i d w0 w top link j free s0 s = Made Assignments assignments_stage (parse_assignments (level d) (tokens_from t i)) (λ x hi m. AssignmentsAt t x top hi m link) t n i w0 w top link 16 j free s0 s

-- a command, by the parser X that reads it
abbrev pub GotCommand : List ℕ → ℕ → ℕ → Parsed Command → List ℕ → List ℕ → ℕ → ℕ → ℕ → ℕ → ℕ → Type 0
GotCommand t n i X w0 w top j free s0 s = Made Command command_stage X (λ x hi m. CommandAt t x top hi m × (top + 2 ≤ hi)) t n i w0 w top top 11 j free s0 s

abbrev pub GotElse : List ℕ → ℕ → ℕ → ℕ → List ℕ → List ℕ → ℕ → ℕ → ℕ → ℕ → ℕ → ℕ → Type 0
GotElse t n i d w0 w top link j free s0 s = Made ElsePart else_stage ((level d).elses (tokens_from t i)) (λ x hi m. ElseAt t x top hi m link) t n i w0 w top link 16 j free s0 s

abbrev pub GotArms : List ℕ → ℕ → ℕ → ℕ → List ℕ → List ℕ → ℕ → ℕ → ℕ → ℕ → ℕ → ℕ → Type 0
GotArms t n i d w0 w top link j free s0 s = Made Arms arms_stage (parse_arms (level d) (tokens_from t i)) (λ x hi m. ArmsAt t x top hi m link) t n i w0 w top link 16 j free s0 s

abbrev pub GotPipeline : List ℕ → ℕ → ℕ → ℕ → List ℕ → List ℕ → ℕ → ℕ → ℕ → ℕ → ℕ → ℕ → Type 0
GotPipeline t n i d w0 w top link j free s0 s = Made Pipeline pipeline_stage (parse_pipeline (level d) (tokens_from t i)) (λ x hi m. PipelineAt t x top hi m link) t n i w0 w top link 11 j free s0 s

abbrev pub GotNegatable : List ℕ → ℕ → ℕ → ℕ → List ℕ → List ℕ → ℕ → ℕ → ℕ → ℕ → ℕ → Type 0
GotNegatable t n i d w0 w top j free s0 s = Made (Bool × Pipeline) (λ x. pipeline_stage x.1) (parse_negatable (level d) (tokens_from t i)) (λ x hi m. (top + 4 ≤ hi) × (slice_index m (top + 2) ≡ flag x.0) × PipelineAt t x.1 (top + 4) hi m (top + 3)) t n i w0 w top top 7 j free s0 s

abbrev pub GotAndOr : List ℕ → ℕ → ℕ → ℕ → List ℕ → List ℕ → ℕ → ℕ → ℕ → ℕ → ℕ → ℕ → Type 0
GotAndOr t n i d w0 w top link j free s0 s = Made AndOr and_or_stage (parse_and_or (level d) (tokens_from t i)) (λ x hi m. AndOrAt t x top hi m (slice_index m link)) t n i w0 w top link 7 j free s0 s

abbrev pub GotList : List ℕ → ℕ → ℕ → ℕ → Bool → List ℕ → List ℕ → ℕ → ℕ → ℕ → ℕ → ℕ → ℕ → Type 0
GotList t n i d b w0 w top link j free s0 s = Made CommandList list_stage ((level d).lists b (tokens_from t i)) (λ x hi m. ListAt t x top hi m link) t n i w0 w top link (pick b 4 16) j free s0 s

-- the redirection that a token with the code k begins
abbrev pub IsRedirect : ℕ → Option RedirectTag → Type 0
IsRedirect k r = MatchOption r ((k < 36) ⊎ (39 < k)) (λ tag. k ≡ 36 + redirect_code tag)

-- the length of the name before the = of a token with the code k
abbrev pub IsAssignment : ℕ → Option ℕ → Type 0
IsAssignment k r = MatchOption r (k < 64) (λ name. k ≡ 64 + name)

-- whether a token with the code k joins pipelines: && or ||
abbrev pub IsJoint : ℕ → Option Bool → Type 0
IsJoint k r = MatchOption r ((k < 42) ⊎ (43 < k)) (λ both. (42 ≤ k) × (k ≤ 43) × (flag both ≡ 43 - k))

-- whether a token with the code k ends a command: ; or & or the end of a line
abbrev pub IsTerminator : ℕ → Option Bool → Type 0
IsTerminator k r = MatchOption r (false ≡ nat_le 32 k && nat_le k 34) (λ background. (background ≡ (k == 34)) × (true ≡ nat_le 32 k && nat_le k 34))

-- an else cell at top whose list has one command, an if at command: the words around it
pub record Nest (w0 w : List ℕ) (top cell node command : ℕ) : Type 0 where
  pub list_link : slice_index_or w top 0 ≡ cell
  pub list_next : slice_index_or w cell 0 ≡ 0
  pub background : slice_index_or w (cell + 1) 0 ≡ 0
  pub chain_link : slice_index_or w (cell + 2) 0 ≡ node
  pub before : slice_index_or w node 0 ≡ 0
  pub negated : slice_index_or w (node + 2) 0 ≡ 0
  pub pipeline_link : slice_index_or w (node + 3) 0 ≡ command
  pub next : slice_index_or w command 0 ≡ 0
  pub tag : slice_index_or w (command + 1) 0 ≡ 3
  pub redirects : slice_index_or w (command + 5) 0 ≡ 0
  pub kept : (k : ℕ) → k < top → slice_index w k ≡ slice_index w0 k
