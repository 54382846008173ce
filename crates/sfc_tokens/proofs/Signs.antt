-- Each delimiter as it is spelled is a piece of text that lexes as it, and ends what stands before it.
use Rattle.std.proofs.Common.{◌≡◌, ℕ, false, List, ◌++◌, Some, refl}
use Rattle.sfc_base.specs.declared.delimiter.Delimiter.{Delimiter}
use Rattle.sfc_base.specs.declared.delimiter.Delimiter.TheVariants as sign
use Rattle.sfc_base.specs.declared.class.Class.TheVariants as class
use Rattle.sfc_base.specs.declared.run.Alphabet.{Alphabet}
use Rattle.sfc_base.specs.declared.run.Alphabet.TheVariants as alphabet
use Rattle.sfc_tokens.specs.declared.lex.Ahead.TheVariants.{Alone}
use Rattle.sfc_tokens.specs.declared.token.TokenKind.TheVariants as token
use Rattle.sfc_base.specs.Classes.{class_of, first_class}
use Rattle.sfc_base.specs.Runs.{is_dot, is_in, Ends}
use Rattle.sfc_tokens.specs.Lexemes as lexemes
use Rattle.sfc_tokens.specs.Lexemes.{is_sharp_first, look_ahead, Piece}
use Rattle.sfc_tokens.specs.Spelling.{sign_text}

pub sign_spells : (d : Delimiter) (rest : List ℕ) → look_ahead d (first_class rest) ≡ Alone → Piece (sign_text d) rest (Some (token.Delimiter d))
unfolding class_of
sign_spells sign.Assign rest e = lexemes.double {d = sign.Colon} refl refl
sign_spells sign.LessOrEqual rest e = lexemes.double {d = sign.Less} refl refl
sign_spells sign.GreaterOrEqual rest e = lexemes.double {d = sign.Greater} refl refl
sign_spells sign.NotEqual rest e = lexemes.double {d = sign.Less} refl refl
sign_spells _ rest e = lexemes.single refl e

-- ---- what a delimiter ends

in_none : (a : Alphabet) (d : Delimiter) → is_dot (class.Sign d) ≡ false → is_in a (class.Sign d) ≡ false
in_none alphabet.Letters d e = refl
in_none alphabet.Figures d e = refl
in_none alphabet.Fraction d e = e
in_none alphabet.Word d e = refl
in_none alphabet.Number d e = refl
in_none alphabet.Interval d e = e
in_none alphabet.Location d e = e

pub ends_before : (a : Alphabet) (d : Delimiter) (rest : List ℕ) → is_in a (class.Sign d) ≡ false → Ends a (sign_text d ++ rest)
unfolding class_of
ends_before a sign.Assign rest e = in_none a sign.Colon refl
ends_before a sign.LessOrEqual rest e = in_none a sign.Less refl
ends_before a sign.GreaterOrEqual rest e = in_none a sign.Greater refl
ends_before a sign.NotEqual rest e = in_none a sign.Less refl
ends_before a _ rest e = e

pub no_sharp : (d : Delimiter) (rest : List ℕ) → is_sharp_first (sign_text d ++ rest) ≡ false
no_sharp sign.Assign rest = refl
no_sharp _ rest = refl
