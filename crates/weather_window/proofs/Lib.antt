pub mod LeastLaws
pub mod PartsLaws
pub mod ChangeLaws
pub mod SteadyLaws
pub mod WindowLaws
