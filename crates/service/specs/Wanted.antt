-- What a request wants: an answer of the desk, or a page of a service that stays.
use Rattle.std.specs.Prelude.{Bool, true, false, List, ℕ, codes, if◌then◌else◌, Option, None, Some}
use Rattle.std.specs.Str.{bytes_eq}
use Rattle.asks.specs.declared.call.Call.{Call}
use Rattle.desk_http.specs.declared.wire.Wire.{Wire}
use Rattle.service.specs.Pages.{nobodys_call}
use Rattle.service.specs.Requested.{requested_by}
use Rattle.service.specs.declared.pages.Page.{Page}
use Rattle.service.specs.declared.pages.Page.TheVariants.{Health, Metrics}
use Rattle.service.specs.declared.requested.Requested.{Requested}
use Rattle.service.specs.declared.requested.Requested.TheVariants as requested
use Rattle.service.specs.declared.wanted.Wanted.{Wanted}
use Rattle.service.specs.declared.wanted.Wanted.TheVariants as wanted

-- the page of a path
abbrev pub page_at : List ℕ → Option Page
page_at path =
    if bytes_eq path (codes "/health") then Some Health else (
    if bytes_eq path (codes "/metrics") then Some Metrics else None)

-- the page of a path, if the service has pages
abbrev pub page_in : Bool → List ℕ → Option Page
page_in true path = page_at path
page_in false path = None

-- a page takes GET
abbrev pub page_wanted : Bool → Page → Wanted
page_wanted true page = wanted.Page page
page_wanted false page = wanted.Asked requested.WrongMethod

abbrev pub wanted_on : Wire → Option Page → Wanted
wanted_on wire None = wanted.Asked (requested_by wire)
wanted_on wire (Some page) = page_wanted wire.get page

-- what a request wants of a service with pages, or without
abbrev pub wanted_by : Bool → Wire → Wanted
wanted_by pages wire = wanted_on wire (page_in pages wire.path)

abbrev pub call_in : Requested → Option Call
call_in (requested.Call call) = Some call
call_in (requested.Bad fault) = None
call_in requested.NoRoute = None
call_in requested.WrongMethod = None

-- The call that a request makes, if any. A page makes that of nobody.
abbrev pub call_wanted : Wanted → Option Call
call_wanted (wanted.Asked asked) = call_in asked
call_wanted (wanted.Page page) = Some nobodys_call
