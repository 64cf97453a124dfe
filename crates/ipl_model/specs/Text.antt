-- The text of replies.
use Rattle.std.specs.Prelude.{ℕ, List, [], ◌∷◌, ◌++◌, codes}
use Rattle.std.specs.Fmt.{decimal}
use Rattle.hex.specs.Hex.{encode_lower}
use Rattle.ipl_base.specs.declared.fault.Refusal.{Refusal}
use Rattle.ipl_base.specs.declared.fault.Refusal.TheVariants.{BadSession, BadName, TooLong, AlreadyOpen, NotOpen, Conflict, WritesFull, SharesFull, PendingFull, BadUnit, HoldsFull, NotHeld, PageFull, Twice, SessionsOpen}
use Rattle.ipl_model.specs.declared.reply.Reply.{Reply}
use Rattle.ipl_model.specs.declared.reply.Reply.TheVariants as reply

-- a value as hex digits, or a dash where it is empty
abbrev pub value_text : List ℕ → List ℕ
value_text [] = codes "-"
value_text (b ∷ bytes) = encode_lower (b ∷ bytes)

-- the number and the word of a refusal
abbrev pub refusal_text : Refusal → List ℕ
refusal_text BadSession = codes "2 badsession"
refusal_text BadName = codes "3 badname"
refusal_text TooLong = codes "4 toolong"
refusal_text AlreadyOpen = codes "5 alreadyopen"
refusal_text NotOpen = codes "6 notopen"
refusal_text (Conflict holder) = codes "7 conflict " ++ decimal holder
refusal_text WritesFull = codes "8 writesfull"
refusal_text SharesFull = codes "9 sharesfull"
refusal_text (PendingFull unit) = codes "10 pendingfull " ++ decimal unit
refusal_text BadUnit = codes "11 badunit"
refusal_text HoldsFull = codes "12 holdsfull"
refusal_text NotHeld = codes "13 notheld"
refusal_text PageFull = codes "14 pagefull"
refusal_text (Twice s) = codes "15 twice " ++ decimal s
refusal_text (SessionsOpen s) = codes "16 sessionsopen " ++ decimal s

-- one line of a reply, with its line feed
abbrev pub reply_text : Reply → List ℕ
reply_text reply.Ok = codes "ok\n"
reply_text reply.Nothing = codes "none\n"
reply_text (reply.Value value) = codes "value " ++ value_text value ++ codes "\n"
reply_text (reply.Row n value) = decimal n ++ codes " " ++ value_text value ++ codes "\n"
reply_text reply.End = codes "end\n"
reply_text reply.Syntax = codes "err 1 syntax\n"
reply_text (reply.Refused refusal) = codes "err " ++ refusal_text refusal ++ codes "\n"
