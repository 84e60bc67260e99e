-- The texts of messages as they are carried. Nothing here need be believed: they are proved to be
-- the texts of the messages that were sent.
use Rattle.std.specs.Prelude.{ℕ, ◌+◌, List, length, codes}
use Rattle.replication.specs.Packed.{Packed}
use Rattle.group_world.specs.declared.party.Party.{Party}
use Rattle.group_world.specs.declared.message.MessageKind.TheVariants as sent
use Rattle.carried.specs.declared.message.CarriedKind.{CarriedKind}
use Rattle.carried.specs.declared.message.CarriedKind.TheVariants.{Query, Log, Install, Installed, AskActivate}
use Rattle.carried.specs.declared.message.CarriedKind.TheVariants.{Activated, Rep, Ack, Reply}
use Rattle.carried.specs.declared.message.CarriedMessage.{CarriedMessage}
use Rattle.sim_world.specs.Texts.{kind_text, word_and_two_numbers, text_between}

-- a list, by its whole length
abbrev pub log_text : ℕ → Packed → List ℕ
log_text interval log = word_and_two_numbers (codes "Log") interval (log.common + length log.rest)

-- what a message says
abbrev pub carried_text : CarriedKind → List ℕ
carried_text (Query map reported) = kind_text (sent.Query map)
carried_text (Log interval log) = log_text interval log
carried_text (Install map list) = kind_text (sent.Install map list)
carried_text (Installed interval) = kind_text (sent.Installed interval)
carried_text (AskActivate interval) = kind_text (sent.AskActivate interval)
carried_text (Activated interval) = kind_text (sent.Activated interval)
carried_text (Rep interval place request) = kind_text (sent.Rep interval place request)
carried_text (Ack interval count) = kind_text (sent.Ack interval count)
carried_text (Reply client number place answer) = kind_text (sent.Reply client number place answer)

-- the line of a message
abbrev pub kept_line : ℕ → Party → CarriedMessage → List ℕ
kept_line number receiver m = text_between number m.sender receiver (carried_text m.kind)
