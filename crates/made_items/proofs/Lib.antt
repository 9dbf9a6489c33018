pub mod PlanForms
pub mod FormLaws
pub mod MakerLaws
