-- Messages of a stream that comes in pieces.
use Rattle.std.proofs.Common.{◌≡◌, ℕ, Option, Some, None, List, [], ◌++◌, refl, sym, ap, ◌∙◌, subst}
use Rattle.std.specs.Prelude.{Vec}
use Rattle.std.specs.Global.{Global}
use Rattle.std.specs.Io.KnownBytes.{IsAtEnd, Keeps, prepend_known}
use Rattle.sfc_frames.specs.Heads.{Cut, Whole, Stays, first}
use Rattle.sfc_frames.specs.Private.Cutting.{IsOutside}
use Rattle.sfc_frames.specs.Streams.{Shows, Takes}
use Rattle.sfc_frames.specs.declared.frame_fault.FrameFault.{FrameFault}
use Rattle.sfc_frames.specs.declared.frame_fault.FrameFault.TheVariants as faults
use Rattle.sfc_frames.proofs.Cutting.{first_stays}

pub keeps_on : (a b c : Option (List ℕ)) → Keeps a b → Keeps b c → Keeps a c
keeps_on None b c h k = tt
keeps_on (Some xs) None c h k = absurd h
keeps_on (Some xs) (Some ys) None h k = absurd k
keeps_on (Some xs) (Some ys) (Some zs) h k = k ∙ h

-- the stream is as it was, where what is held is as it was
pub keeps_held : (before remaining : Option (List ℕ)) (held same : List ℕ) → Keeps before (prepend_known held remaining) → same ≡ held
    → Keeps before (prepend_known same remaining)
keeps_held before remaining held same keeps e = subst (λ (s : List ℕ). Keeps before (prepend_known s remaining)) (sym e) keeps

-- and where a piece went over
pub keeps_piece : (before middle after : Option (List ℕ)) (held same last : List ℕ) → Keeps before (prepend_known held middle) → same ≡ held
    → Keeps (prepend_known same middle) (prepend_known last after) → Keeps before (prepend_known last after)
keeps_piece before middle after held same last keeps e piece =
    keeps_on before (prepend_known same middle) (prepend_known last after) (keeps_held before middle held same keeps e) piece

whole_then : (bytes message rest more : List ℕ) → first bytes ≡ Whole message rest → first (bytes ++ more) ≡ Whole message (rest ++ more)
whole_then bytes message rest more e = let P : Cut → Type 0 = λ c. Stays c (first (bytes ++ more)) more in subst P e (first_stays bytes more)

-- a message was cut off what is held of a stream that is as it was
pub takes_message : (before remaining : Option (List ℕ)) (held left : List ℕ) (message : Vec ℕ Global) → Keeps before (prepend_known held remaining)
    → first held ≡ Whole message.items left → Takes before (prepend_known left remaining) (Some message)
takes_message None remaining held left message keeps e = tt
takes_message (Some bytes) None held left message keeps e = absurd keeps
takes_message (Some bytes) (Some more) held left message keeps e =
    (left ++ more, ap first (sym keeps) ∙ whole_then held message.items left more e, refl)

-- nothing is held of a stream that has come to its end
pub takes_nothing : (before remaining : Option (List ℕ)) (held : List ℕ) → Keeps before (prepend_known held remaining) → IsAtEnd remaining → held ≡ []
    → Takes before (prepend_known held remaining) None
takes_nothing None remaining held keeps end e = tt
takes_nothing (Some bytes) None held keeps end e = absurd keeps
takes_nothing (Some bytes) (Some more) held keeps end e =
    let whole : held ++ more ≡ [] = ap (λ (h : List ℕ). h ++ more) e ∙ end in (sym keeps ∙ whole, ap (λ s. Some s) whole)

pub shows_outside : (held : List ℕ) (fault : FrameFault) → IsOutside fault → Shows held fault
shows_outside held (faults.Malformed why) h = absurd h
shows_outside held faults.EndsWithin h = absurd h
shows_outside held faults.Read h = tt
shows_outside held faults.Memory h = tt

pub outside_goes_on : (fault : FrameFault) → IsOutside fault → fault ≡ faults.EndsWithin → ⊥
outside_goes_on (faults.Malformed why) h e = h
outside_goes_on faults.EndsWithin h e = h
outside_goes_on faults.Read h e = cc
outside_goes_on faults.Memory h e = cc
