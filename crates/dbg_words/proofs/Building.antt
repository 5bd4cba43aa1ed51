-- The command as clap's contracts see it.
use Rattle.std.proofs.Common.{◌≡◌, ℕ, List, [], ◌∷◌, map, true, refl, ap, ◌∙◌, subst}
use Rattle.clap.specs.Words.{Kinds, IsAmong, app_of, is_simple_and_free, is_simple}
use Rattle.clap.specs.declared.builder.Command.{Command}
use Rattle.clap.specs.declared.builder.command.Command.TheViews.{out-Command}
use Rattle.clap.specs.declared.builder.command.Command.TheOpen.{Command-F}
use Rattle.clap.specs.declared.error.kind.ErrorKind.{ErrorKind}
use Rattle.clap.proofs.OnLiterals.{clap_on_literals}
use Rattle.dbg_words.specs.Command.{rvdbg, settled_app}
use Rattle.dbg_words.specs.Uses.{option_names}
use Rattle.clap.specs.Simple.{app_of_fields}

pub settled_is : (a b c : Command) → out-Command b ≡ record (out-Command a) { no_binary_name = true } → out-Command c ≡ record (out-Command b) { disable_help_flag = true } → app_of c ≡ settled_app (app_of a)
settled_is a b c first second = ap app_of_fields second ∙ ap (λ (f : Command-F Command). app_of_fields (record f { disable_help_flag = true })) first

pub rvdbg-simple : is_simple rvdbg ≡ true
unfolding rvdbg option_names clap_on_literals
rvdbg-simple = refl

pub rvdbg-free : is_simple_and_free rvdbg ≡ true
unfolding rvdbg option_names clap_on_literals
rvdbg-free = refl

pub is_refused : (k : ErrorKind) (a b : Kinds) → a ≡ b → IsAmong k a → b ≡ [] → ⊥
is_refused k a b same among none = let P : Kinds → Type 0 = λ ks. IsAmong k ks in subst P (same ∙ none) among

pub map-same : (words : List (List ℕ)) → map (λ (w : List ℕ). w) words ≡ words
map-same [] = refl
map-same (w ∷ ws) = ap (λ r. w ∷ r) (map-same ws)
