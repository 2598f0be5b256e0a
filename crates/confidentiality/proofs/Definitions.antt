-- `unfolding claim_definitions` unfolds the definitions of the claim, beside those of the step, for journals that are computed.
use Rattle.model.specs.Lists.{for_all}
use Rattle.model.specs.Replay.{unread}
use Rattle.model.proofs.StepDefinitions.{step_definitions}
use Rattle.confidentiality.specs.Traces.{run_trace, is_accepted}
use Rattle.confidentiality.specs.History.{sender, after_event, is_kind, is_about, is_between, registered, owner, befriended, is_public, owns_or_befriends, closed_to, is_text_update}
use Rattle.confidentiality.specs.Windows.{update_at, windows}
use Rattle.confidentiality.specs.Purging.{mark, remaining, purged_while_closed}
use Rattle.confidentiality.specs.Confidentiality.{last_text, is_observer, observed}

unfoldable pub claim_definitions : Unit {0}
unfolding step_definitions for_all unread run_trace is_accepted sender after_event is_kind is_about is_between registered owner befriended is_public owns_or_befriends closed_to mark remaining purged_while_closed update_at windows is_text_update last_text is_observer observed
claim_definitions = tt
