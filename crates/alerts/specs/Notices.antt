-- The notices about alerts, each to whoever sits at the desk of its release.
use Rattle.std.specs.Prelude.{nat_lt, if◌then◌else◌, Option, None, Some}
use Rattle.alerts.specs.declared.alert.Alert.{Alert}
use Rattle.alerts.specs.declared.notices.Notice.{Notice}
use Rattle.alerts.specs.declared.notices.NoticeKind.{NoticeKind}
use Rattle.alerts.specs.declared.notices.NoticeKind.TheVariants.{Opened, Changed, Closed}

abbrev pub made_notice : NoticeKind → Alert → Notice
made_notice kind a = record { desk = a.desk; release = a.release; version = a.version; kind = kind }

-- The notice about a release's alert, from the alert before and after an event. It is opened if it is new, changed if
-- its version increased, and closed if it is gone.
abbrev pub notice_of : Option Alert → Option Alert → Option Notice
notice_of None None = None
notice_of None (Some a) = Some (made_notice Opened a)
notice_of (Some a) None = Some (made_notice Closed a)
notice_of (Some a) (Some b) = if nat_lt a.version b.version then Some (made_notice Changed b) else None
