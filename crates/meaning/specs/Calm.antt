-- Calm texts: those of which every order that ends puts the same on the paper.
-- A text is calm if it has no & behind a command and no functions; commands that aren't simple have no redirections;
-- behind a redirection that reads no later redirection's word of the same command has a $( ); and inside a pipeline there
-- is no further pipe, no $( ), no redirection that writes, and each simple command's first word is written out as
-- literal bytes, with no * or ? outside quotes, and isn't rm or read.
use Rattle.std.specs.Prelude.{Bool, true, false, ◌&&◌, ◌||◌, not, [], ◌++◌}
use Rattle.std.proofs.Math.Option.{Option, some, none}
use Rattle.syntax.specs.Base.{pick, opt, on_some, Name, same}
use Rattle.syntax.specs.Tree.{WordPart, literal, parameter, substitution, Word, no_parts, and_part, Words, no_words, and_word, Assignments, no_assignments, assign, RedirectKind, input, output, append, here, Redirects, no_redirects, redirect, Command, simple, group, subshell, if, while, for, case, function, ElsePart, no_else, else, Arms, no_arms, arm, Pipeline, single, piped, AndOr, first, joined, CommandList, end, next}
use Rattle.syntax.specs.Stage.{has_wildcard}
use Rattle.meaning.specs.Step.{name_rm, name_read}

-- < and << read, > and >> write
abbrev pub reads : RedirectKind → Bool
reads input = true
reads output = false
reads append = false
reads here = true

abbrev pub reads_only : Redirects → Bool
reads_only no_redirects = true
reads_only (redirect k w ts) = reads k && reads_only ts

-- the bytes of a word that is written out: literal parts, with no * or ? outside quotes
abbrev pub literal_word : Word → Option Name
literal_word no_parts = some []
literal_word (and_part (literal q b) w) = pick (not q && has_wildcard b) none (on_some (literal_word w) (λ c. some (b ++ c)))
literal_word (and_part (parameter q x) w) = none
literal_word (and_part (substitution q l) w) = none

-- what a command that isn't simple reads would be read by several, and what it writes could be read by those inside
abbrev pub without_redirects : Redirects → Bool
without_redirects no_redirects = true
without_redirects (redirect k w ts) = false

-- the first word is written out, and isn't rm or read. A word of no parts at all, which no text has, would leave the
-- command to be named by the next one
abbrev pub harmless : Words → Bool
harmless no_words = true
harmless (and_word no_parts ws) = false
harmless (and_word (and_part p w) ws) = opt (literal_word (and_part p w)) false (λ x. not (same x name_rm || same x name_read))

-- strict is the rule about redirections that read: without it orders differ, as `WithoutTheRule` shows
module _ (strict : Bool) where
  abbrev mutual
    -- the flag: a $( ) may not stand here, inside a pipeline or behind a redirection that reads
    pub calm_part : Bool → WordPart → Bool
    calm_part i (literal q b) = true
    calm_part i (parameter q x) = true
    calm_part i (substitution q l) = not i && calm_list i l

    pub calm_word : Bool → Word → Bool
    calm_word i no_parts = true
    calm_word i (and_part p w) = calm_part i p && calm_word i w

    pub calm_words : Bool → Words → Bool
    calm_words i no_words = true
    calm_words i (and_word w ws) = calm_word i w && calm_words i ws

    pub calm_assignments : Bool → Assignments → Bool
    calm_assignments i no_assignments = true
    calm_assignments i (assign x w ss) = calm_word i w && calm_assignments i ss

    pub calm_redirects : Bool → Redirects → Bool
    calm_redirects i no_redirects = true
    calm_redirects i (redirect k w ts) = calm_word i w && calm_redirects (i || (strict && reads k)) ts

    pub calm_command : Bool → Command → Bool
    calm_command i (simple ss ws ts) = (calm_assignments i ss && calm_words i ws) && (calm_redirects i ts && (not i || (reads_only ts && harmless ws)))
    calm_command i (group l ts) = calm_list i l && (calm_redirects i ts && without_redirects ts)
    calm_command i (subshell l ts) = calm_list i l && (calm_redirects i ts && without_redirects ts)
    calm_command i (if a b e ts) = (calm_list i a && calm_list i b) && (calm_else i e && (calm_redirects i ts && without_redirects ts))
    calm_command i (while a b ts) = calm_list i a && (calm_list i b && (calm_redirects i ts && without_redirects ts))
    calm_command i (for x ws l ts) = calm_words i ws && (calm_list i l && (calm_redirects i ts && without_redirects ts))
    calm_command i (case w is ts) = calm_word i w && (calm_arms i is && (calm_redirects i ts && without_redirects ts))
    calm_command i (function x l) = false

    pub calm_else : Bool → ElsePart → Bool
    calm_else i no_else = true
    calm_else i (else l) = calm_list i l

    pub calm_arms : Bool → Arms → Bool
    calm_arms i no_arms = true
    calm_arms i (arm w l is) = calm_word i w && (calm_list i l && calm_arms i is)

    pub calm_pipeline : Bool → Pipeline → Bool
    calm_pipeline i (single c) = calm_command i c
    calm_pipeline i (piped c p) = not i && (calm_command true c && calm_members p)

    pub calm_members : Pipeline → Bool
    calm_members (single d) = calm_command true d
    calm_members (piped d p) = calm_command true d && calm_members p

    pub calm_and_or : Bool → AndOr → Bool
    calm_and_or i (first n p) = calm_pipeline i p
    calm_and_or i (joined a b n p) = calm_and_or i a && calm_pipeline i p

    pub calm_list : Bool → CommandList → Bool
    calm_list i end = true
    calm_list i (next a b l) = not b && (calm_and_or i a && calm_list i l)

abbrev pub calm : CommandList → Bool
calm l = calm_list true false l
